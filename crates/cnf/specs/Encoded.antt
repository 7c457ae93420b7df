-- What a function promises that writes a list of clauses into a lent buffer: its whole answer, and what the buffer holds
-- afterwards. Assumes nothing.
use Rattle.std.specs.Prelude.{◌≡◌, List, [], ◌∷◌, ℕ, length, get_or, ℤ}
use Rattle.std.proofs.Common.{ap}
use Rattle.lists.specs.Buffer.{over}
use Rattle.refusal.specs.Rules.{Rule}
use Rattle.refusal.specs.Said.{Said, refused, result_of}
use Rattle.refusal.specs.Answered.{AnsweredBy, answered_once}
use Rattle.refusal.proofs.SaidLaws.{refused_one}
use Rattle.cnf.specs.Clause.{Clause, words}
use Rattle.cnf.specs.declared.Tally.{Tally}
use Rattle.cnf.specs.declared.Encoded.{Encoded}
use Rattle.cnf.specs.declared.Encoded.TheVariants.{Written, Refused}
use Rattle.cnf.specs.declared.EncodeAnswer.{EncodeAnswer}

abbrev pub tally : ℕ → ℕ → ℕ → Tally
tally w c v = record { words = w; clauses = c; variables = v }

-- how many words and clauses a list has, and its last variable
abbrev pub tally_of : List Clause → ℕ → Tally
tally_of cs last = tally (length (words cs)) (length cs) last

-- as a result's values
abbrev pub tally_said : Tally → List ℕ
tally_said t = t.words ∷ t.clauses ∷ t.variables ∷ []

-- the number and the values of each case
abbrev pub encoded_said : Encoded → Said
encoded_said (Written t) = result_of (tally_said t)
encoded_said (Refused r) = refused r

-- the answer is the first refusal of the rules that is due, and the buffer is kept; or else the words of the clauses stand
-- at the buffer's front, the rest of it is kept, and the answer counts them
abbrev pub EncodedBy : List Rule → List Clause → ℕ → List ℤ → EncodeAnswer → List ℤ → Type 0
EncodedBy rules cs last before answer after = AnsweredBy encoded_said rules (tally_said (tally_of cs last)) (over (words cs) before) before answer.outcome after

pub tally_same : (w c v w' c' v' : ℕ) → w ≡ w' → c ≡ c' → v ≡ v' → tally w c v ≡ tally w' c' v'
tally_same w c v w' c' v' p q r = rw (p, q, r)

value : ℕ → List ℕ → ℕ
value k l = get_or l k 0

pub tally_said_once : (s t : Tally) → tally_said s ≡ tally_said t → s ≡ t
unfolding value
tally_said_once s t p = tally_same _ _ _ _ _ _ (ap (value 0) p) (ap (value 1) p) (ap (value 2) p)

-- no two cases say the same
pub encoded_said_once : (a b : Encoded) → encoded_said a ≡ encoded_said b → a ≡ b
encoded_said_once (Written s) (Written t) p = ap Written (tally_said_once s t (ap (λ (s : Said). s.values) p))
encoded_said_once (Written t) (Refused r) p = let q = ap (λ (s : Said). s.values) p in cc
encoded_said_once (Refused r) (Written t) p = let q = ap (λ (s : Said). s.values) p in cc
encoded_said_once (Refused r) (Refused s) p = ap Refused (refused_one r s p)

-- any two outcomes that the promise allows are equal: the answers, and what the buffer holds
pub encoded_one_outcome : (rules : List Rule) (cs : List Clause) (last : ℕ) (before : List ℤ) (a b : EncodeAnswer) (after after' : List ℤ) → EncodedBy rules cs last before a after → EncodedBy rules cs last before b after' → (a ≡ b) × (after ≡ after')
encoded_one_outcome rules cs last before a b after after' p q = let w = answered_once encoded_said_once p q in (ap (λ (o : Encoded). record { outcome = o }) w.0, w.1)
