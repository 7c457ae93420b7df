-- A lent word list, for variables up to v: what is refused of it, numbers 16, 14 and 15, as a table and as rules that
-- compute. Words count from 0. Assumes nothing.
use Rattle.std.specs.Prelude.{◌≡◌, Bool, true, not, cond, ◌||◌, List, [], ◌∷◌, ℕ, ◌≤◌, ◌<◌, ltb, ℤ, pos, nat_abs, length, get_or, None}
use Rattle.lists.specs.First.{found_if, first, FirstFailing}
use Rattle.lists.specs.Signed.{beyond}
use Rattle.refusal.specs.Rules.{Rule, rule}
use Rattle.refusal.specs.Table.{Row, row}
use Rattle.cnf.specs.Words.{zeros, closed}

-- the word at index k
abbrev pub word : List ℤ → ℕ → ℤ
word ws k = get_or ws k (pos 0)

-- ---- the table

-- 16: the limits of V and of a number of clauses
pub record CountsFit (v clauses : ℕ) : Type 0 where
  pub variables : v ≤ 1000000
  pub clause_count : clauses ≤ 4000000

-- and of a word list, whose clauses are its zeros
pub record LimitsKept (v : ℕ) (ws : List ℤ) : Type 0 where
  pub counts : CountsFit v (zeros ws)
  pub words : length ws ≤ 100000000

-- 14: the word at index k is no literal beyond v
abbrev pub InRange : ℕ → List ℤ → ℕ → Type 0
InRange v ws k = nat_abs (word ws k) ≤ v

-- what is asked of a word list, all in all
pub record WellWords (v : ℕ) (ws : List ℤ) : Type 0 where
  pub limits : LimitsKept v ws
  pub in_range : (k : ℕ) → k < length ws → InRange v ws k
  pub ends : closed ws ≡ true

-- numbers 16, 14 and 15, with their places
abbrev pub word_table : ℕ → List ℤ → List Row
word_table v ws =
    row 16 (λ p. (p ≡ 0) × (LimitsKept v ws → ⊥))
    ∷ row 14 (FirstFailing (length ws) (InRange v ws))
    ∷ row 15 (λ p. (p ≡ length ws) × (closed ws ≡ true → ⊥))
    ∷ []

-- ---- the same as rules

abbrev pub too_many : ℕ → ℕ → Bool
too_many v clauses = ltb 1000000 v || ltb 4000000 clauses

abbrev pub beyond_at : ℕ → List ℤ → ℕ → Bool
beyond_at v ws k = beyond v (word ws k)

-- 14 and 15, where `some` says whether a literal is beyond v
unfoldable pub literal_rules : ℕ → List ℤ → Bool → List Rule
literal_rules v ws some =
    rule 14 (cond some (first (beyond_at v ws) (length ws)) None)
    ∷ rule 15 (found_if (not (closed ws)) (length ws))
    ∷ []

-- and 16, where `clauses` is the number of zeros
unfoldable pub counted_rules : ℕ → List ℤ → ℕ → Bool → List Rule
counted_rules v ws clauses some = rule 16 (found_if (too_many v clauses || ltb 100000000 (length ws)) 0) ∷ literal_rules v ws some

-- with its own counts: 16, then 14, searched for, then 15
unfoldable pub word_rules : ℕ → List ℤ → List Rule
word_rules v ws = counted_rules v ws (zeros ws) true
