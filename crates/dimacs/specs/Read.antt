-- What `read_text` promises for every input: its whole answer, and what the lent list holds afterwards. Assumes nothing.
use Rattle.std.specs.Prelude.{◌≡◌, List, ℕ, ℤ, length}
use Rattle.std.proofs.Common.{ap}
use Rattle.lists.specs.Buffer.{over}
use Rattle.refusal.specs.Rules.{Rule}
use Rattle.refusal.specs.Said.{Said, refused, result_of}
use Rattle.refusal.specs.Answered.{AnsweredBy, answered_once}
use Rattle.refusal.proofs.SaidLaws.{refused_one}
use Rattle.cnf.specs.Words.{zeros}
use Rattle.cnf.specs.Encoded.{tally, tally_said, tally_said_once}
use Rattle.cnf.specs.declared.Tally.{Tally}
use Rattle.dimacs.specs.Rules.{header_variables, text_words, read_rules}
use Rattle.dimacs.specs.declared.TextRead.{TextRead}
use Rattle.dimacs.specs.declared.TextRead.TheVariants.{Read, Refused}
use Rattle.dimacs.specs.declared.ReadAnswer.{ReadAnswer}

-- the number and the values of each case
abbrev pub read_said : TextRead → Said
read_said (Read t) = result_of (tally_said t)
read_said (Refused r) = refused r

-- the words of a text, how many they are, its clauses, and the header's V
abbrev pub tally_read : List ℤ → ℕ → Tally
tally_read ws v = tally (length ws) (zeros ws) v

-- the answer is the first refusal of the rules that is due, and the list is kept; or else the words stand at the list's front,
-- the rest of it is kept, and the answer counts them
abbrev pub ReadBy : List Rule → List ℤ → ℕ → List ℤ → ReadAnswer → List ℤ → Type 0
ReadBy rules ws v before answer after = AnsweredBy read_said rules (tally_said (tally_read ws v)) (over ws before) before answer.outcome after

abbrev pub ReadPromise : List ℕ → List ℤ → ReadAnswer → List ℤ → Type 0
ReadPromise text before = ReadBy (read_rules text (length before)) (text_words text) (header_variables text) before

-- no two cases say the same
pub read_said_once : (a b : TextRead) → read_said a ≡ read_said b → a ≡ b
read_said_once (Read s) (Read t) p = ap Read (tally_said_once s t (ap (λ (s : Said). s.values) p))
read_said_once (Read t) (Refused r) p = let q = ap (λ (s : Said). s.values) p in cc
read_said_once (Refused r) (Read t) p = let q = ap (λ (s : Said). s.values) p in cc
read_said_once (Refused r) (Refused s) p = ap Refused (refused_one r s p)

-- any two outcomes that the promise allows are equal: the answers, and what the list holds
pub read_one_outcome : (text : List ℕ) (before : List ℤ) (a b : ReadAnswer) (after after' : List ℤ) → ReadPromise text before a after → ReadPromise text before b after' → (a ≡ b) × (after ≡ after')
read_one_outcome text before a b after after' p q = let w = answered_once read_said_once p q in (ap (λ (o : TextRead). record { outcome = o }) w.0, w.1)
