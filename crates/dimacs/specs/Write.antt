-- What `write_text` promises for every input: its whole answer, and what the lent buffer holds afterwards. Assumes nothing.
use Rattle.std.specs.Prelude.{◌≡◌, List, [], ◌∷◌, ◌++◌, ℕ, ℤ, length, get_or}
use Rattle.std.proofs.Common.{ap}
use Rattle.lists.specs.Buffer.{over}
use Rattle.refusal.specs.Rules.{Rule, room_rule}
use Rattle.refusal.specs.Said.{Said, refused, result_of}
use Rattle.refusal.specs.Table.{Row, room_row}
use Rattle.refusal.specs.Answered.{AnsweredBy, answered_once}
use Rattle.refusal.proofs.SaidLaws.{refused_one}
use Rattle.cnf.specs.Lent.{word_rules, word_table}
use Rattle.dimacs.specs.Text.{text_of}
use Rattle.dimacs.specs.declared.TextWritten.{TextWritten}
use Rattle.dimacs.specs.declared.TextWritten.TheVariants.{Written, Refused}
use Rattle.dimacs.specs.declared.WriteAnswer.{WriteAnswer}

-- numbers 16, 14 and 15, and 7 where the text does not fit into a lent buffer of `room` bytes
abbrev pub write_rules : ℕ → List ℤ → ℕ → List Rule
write_rules v ws room = word_rules v ws ++ (room_rule (length (text_of v ws)) room ∷ [])

abbrev pub write_table : ℕ → List ℤ → ℕ → List Row
write_table v ws room = word_table v ws ++ (room_row (length (text_of v ws)) room ∷ [])

-- the number and the values of each case
abbrev pub written_said : TextWritten → Said
written_said (Written bytes) = result_of (bytes ∷ [])
written_said (Refused r) = refused r

-- the answer is the first refusal of the rules that is due, and the buffer is kept; or else the text stands at the buffer's
-- front, the rest of it is kept, and the answer counts its bytes
abbrev pub WrittenBy : List Rule → ℕ → List ℤ → List ℕ → WriteAnswer → List ℕ → Type 0
WrittenBy rules v ws before answer after = AnsweredBy written_said rules (length (text_of v ws) ∷ []) (over (text_of v ws) before) before answer.outcome after

abbrev pub WritePromise : ℕ → List ℤ → List ℕ → WriteAnswer → List ℕ → Type 0
WritePromise v ws before = WrittenBy (write_rules v ws (length before)) v ws before

-- no two cases say the same
pub written_said_once : (a b : TextWritten) → written_said a ≡ written_said b → a ≡ b
written_said_once (Written n) (Written k) p = ap Written (ap (λ (s : Said). get_or s.values 0 0) p)
written_said_once (Written n) (Refused r) p = let q = ap (λ (s : Said). s.values) p in cc
written_said_once (Refused r) (Written n) p = let q = ap (λ (s : Said). s.values) p in cc
written_said_once (Refused r) (Refused s) p = ap Refused (refused_one r s p)

-- any two outcomes that the promise allows are equal: the answers, and what the buffer holds
pub write_one_outcome : (v : ℕ) (ws : List ℤ) (before : List ℕ) (a b : WriteAnswer) (after after' : List ℕ) → WritePromise v ws before a after → WritePromise v ws before b after' → (a ≡ b) × (after ≡ after')
write_one_outcome v ws before a b after after' p q = let w = answered_once written_said_once p q in (ap (λ (o : TextWritten). record { outcome = o }) w.0, w.1)
