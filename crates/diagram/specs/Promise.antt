-- What `check` promises for every input: its whole answer. Assumes nothing.
use Rattle.std.specs.Prelude.{◌≡◌, List, [], ◌∷◌, ℕ, get_or, Result}
use Rattle.std.proofs.Common.{sym, ◌∙◌, ap}
use Rattle.refusal.specs.Rules.{chain}
use Rattle.refusal.specs.Said.{Said, refused, result_of, saying, giving}
use Rattle.refusal.proofs.SaidLaws.{refused_one}
use Rattle.refusal.specs.declared.Refusal.{Refusal}
use Rattle.diagram.specs.Lent.{Lent, options, nodes, edges}
use Rattle.diagram.specs.Numbers.{values}
use Rattle.diagram.specs.Rules.{check_rules}
use Rattle.diagram.specs.declared.Diagram.{Diagram}
use Rattle.diagram.specs.declared.Checked.{Checked}
use Rattle.diagram.specs.declared.Checked.TheVariants.{Sound, Refused}
use Rattle.diagram.specs.declared.CheckAnswer.{CheckAnswer}

-- n, s, D and E, as a result's values
abbrev pub counts_said : Diagram → List ℕ
counts_said c = c.options ∷ c.nodes ∷ c.values ∷ c.edges ∷ []

-- the number and the values of each case
abbrev pub check_said : Checked → Said
check_said (Sound c) = result_of (counts_said c)
check_said (Refused r) = refused r

-- a diagram's own counts
abbrev pub counts_of : Lent → Diagram
counts_of d = record { options = options d; nodes = nodes d; values = values d; edges = edges d }

-- a diagram that is found sound, or the first refusal of numbers 1 to 6 that is due
abbrev pub sound_of : Lent → Result Lent Refusal
sound_of d = giving (chain (check_rules d)) d

pub record CheckPromise (d : Lent) (answer : CheckAnswer) : Type 0 where
  pub says : check_said answer.outcome ≡ saying (chain (check_rules d)) (counts_said (counts_of d))

same_counts : (a b c e a' b' c' e' : ℕ) → a ≡ a' → b ≡ b' → c ≡ c' → e ≡ e'
    → ◌≡◌ {A = Diagram} (record { options = a; nodes = b; values = c; edges = e }) (record { options = a'; nodes = b'; values = c'; edges = e' })
same_counts a b c e a' b' c' e' p q r s = rw (p, q, r, s)

value : ℕ → Said → ℕ
value k s = get_or s.values k 0

-- no two cases say the same
pub check_said_once : (a b : Checked) → check_said a ≡ check_said b → a ≡ b
unfolding value
check_said_once (Sound c) (Sound e) p = ap Sound (same_counts _ _ _ _ _ _ _ _ (ap (value 0) p) (ap (value 1) p) (ap (value 2) p) (ap (value 3) p))
check_said_once (Sound c) (Refused r) p = let q = ap (λ (s : Said). s.values) p in cc
check_said_once (Refused r) (Sound c) p = let q = ap (λ (s : Said). s.values) p in cc
check_said_once (Refused r) (Refused s) p = ap Refused (refused_one r s p)

-- any two outcomes that the promise allows are equal
pub check_one_outcome : (d : Lent) (a b : CheckAnswer) → CheckPromise d a → CheckPromise d b → a ≡ b
check_one_outcome d a b p q = ap (λ (o : Checked). record { outcome = o }) (check_said_once a.outcome b.outcome (p.says ∙ sym q.says))
