-- What the literals of a model say of the variables, one mark for each; numbers 10 and 11 as tests that compute; and what
-- `read_names` promises for every input. Literals count from 0. Assumes nothing.
use Rattle.std.specs.Prelude.{Bool, not, cond, ◌&&◌, List, [], ◌∷◌, ℕ, zero, suc, min, ltb, leb, eqb, ℤ, length, Result}
use Rattle.lists.specs.Upto.{up_to}
use Rattle.lists.specs.First.{first}
use Rattle.lists.specs.Signed.{is_negative}
use Rattle.refusal.specs.Rules.{Rule, rule, chain}
use Rattle.refusal.specs.Said.{giving}
use Rattle.refusal.specs.declared.Refusal.{Refusal}
use Rattle.literals.specs.Literals.{literal, variable, bad_at}

-- what a literal says of its variable: 1 for true, 2 for false
abbrev pub mark_of : ℤ → ℕ
mark_of l = cond (is_negative l) 2 1

-- what the first k literals say of the variable x: 0 for nothing, or what the last one says that names x
unfoldable pub mark : List ℤ → ℕ → ℕ → ℕ
mark m zero x = 0
mark m (suc k) x = cond (eqb (variable m k) x) (mark_of (literal m k)) (mark m k x)

-- the literal at index k names a variable up to D that one before it names
unfoldable pub again : ℕ → List ℤ → ℕ → Bool
again D m k = leb (variable m k) D && not (eqb (mark m k (variable m k)) 0)

-- numbers 10 and 11, where V is `last`, and the value variables are those up to D
unfoldable pub naming_rules : ℕ → ℕ → List ℤ → List Rule
naming_rules last D m = rule 10 (first (bad_at last m) (length m)) ∷ rule 11 (first (again D m) (length m)) ∷ []

-- the mark of the variable u + 1: what the model says of it where it is one up to D, and 0 beyond
unfoldable pub mark_at : ℕ → List ℤ → ℕ → ℕ
mark_at D m u = cond (ltb u D) (mark m (length m) (suc u)) 0

-- 2,048 marks, the first variable's first
unfoldable pub marks_of : ℕ → List ℤ → List ℕ
marks_of D m = up_to 2048 (λ u. mark_at D m u ∷ [])

-- the first refusal that is due; or else the marks: of any V and D, cut to what a literal can name and to what there are marks for
abbrev pub names_read : ℕ → ℕ → List ℤ → Result (List ℕ) Refusal
names_read last D m = giving (chain (naming_rules (min 2147483647 last) (min 2048 D) m)) (marks_of (min 2048 D) m)
