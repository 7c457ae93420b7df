-- What `run` promises for every input: its whole answer, and what the lent buffer holds afterwards. Assumes nothing.
use Rattle.std.specs.Prelude.{◌≡◌, List, [], ◌∷◌, ℕ, length, get_or, take, drop, Ok, Err}
use Rattle.std.proofs.Common.{ap}
use Rattle.lists.specs.Buffer.{over}
use Rattle.refusal.specs.Rules.{Verdict, refusal, room_rule, chain}
use Rattle.refusal.specs.Said.{Said, refused, result_of}
use Rattle.refusal.specs.Table.{GivenIn, NoneDue}
use Rattle.refusal.specs.Answered.{AnsweredBy, answered_once}
use Rattle.refusal.proofs.SaidLaws.{refused_one}
use Rattle.diagram_file.specs.File.{file_diagram}
use Rattle.desk.specs.Output.{desk_rules, desk_table, refusal_lines, diagram_text, printing}
use Rattle.desk.specs.declared.DeskRun.{DeskRun}
use Rattle.desk.specs.declared.DeskRun.TheVariants.{Text, Told, Refused}
use Rattle.desk.specs.declared.DeskAnswer.{DeskAnswer}

-- the number and the values of each case: how many bytes are printed and, where they tell a refusal, which one
abbrev pub desk_said : DeskRun → Said
desk_said (Text bytes) = result_of (bytes ∷ [])
desk_said (Told bytes r) = result_of (bytes ∷ r.number ∷ r.place ∷ [])
desk_said (Refused r) = refused r

-- where all of it fits: a verdict's refusal is told, or else a text is printed
abbrev pub outcome_of : Verdict → ℕ → DeskRun
outcome_of (Ok tt) bytes = Text bytes
outcome_of (Err r) bytes = Told bytes r

-- what a function promises that prints a verdict's refusal, or else a text: where all of it fits into the lent buffer it
-- stands at the buffer's front, the rest is kept, and the answer says how many bytes it has and which refusal it tells; where
-- it does not, the answer is number 7 with the length needed, and the buffer is kept
abbrev pub PrintedBy : Verdict → List ℕ → List ℕ → DeskAnswer → List ℕ → Type 0
PrintedBy v text before answer after =
    AnsweredBy desk_said (room_rule (length (printing v text)) (length before) ∷ []) (desk_said (outcome_of v (length (printing v text)))).values (over (printing v text) before) before answer.outcome after

abbrev pub DeskPromise : List ℕ → List ℕ → DeskAnswer → List ℕ → Type 0
DeskPromise input = PrintedBy (chain (desk_rules input)) (diagram_text (file_diagram input))

told_same : (n p q n' p' q' : ℕ) → n ≡ n' → p ≡ p' → q ≡ q' → Told n (refusal p q) ≡ Told n' (refusal p' q')
told_same n p q n' p' q' e f g = rw (e, f, g)

value : ℕ → Said → ℕ
value k s = get_or s.values k 0

-- no two cases say the same
pub desk_said_once : (a b : DeskRun) → desk_said a ≡ desk_said b → a ≡ b
unfolding value
desk_said_once (Text n) (Text m) p = ap Text (ap (value 0) p)
desk_said_once (Text n) (Told m r) p = let q = ap (λ (s : Said). s.values) p in cc
desk_said_once (Text n) (Refused r) p = let q = ap (λ (s : Said). s.values) p in cc
desk_said_once (Told n r) (Text m) p = let q = ap (λ (s : Said). s.values) p in cc
desk_said_once (Told n r) (Told m s) p = told_same _ _ _ _ _ _ (ap (value 0) p) (ap (value 1) p) (ap (value 2) p)
desk_said_once (Told n r) (Refused s) p = let q = ap (λ (s : Said). s.values) p in cc
desk_said_once (Refused r) (Text m) p = let q = ap (λ (s : Said). s.values) p in cc
desk_said_once (Refused r) (Told m s) p = let q = ap (λ (s : Said). s.values) p in cc
desk_said_once (Refused r) (Refused s) p = ap Refused (refused_one r s p)

-- any two outcomes that a promise allows are equal: the answers, and what the buffer holds
pub printed_one_outcome : (v : Verdict) (text before : List ℕ) (a b : DeskAnswer) (after after' : List ℕ) → PrintedBy v text before a after → PrintedBy v text before b after' → (a ≡ b) × (after ≡ after')
printed_one_outcome v text before a b after after' p q = let w = answered_once desk_said_once p q in (ap (λ (o : DeskRun). record { outcome = o }) w.0, w.1)

pub desk_one_outcome : (input before : List ℕ) (a b : DeskAnswer) (after after' : List ℕ) → DeskPromise input before a after → DeskPromise input before b after' → (a ≡ b) × (after ≡ after')
desk_one_outcome input = printed_one_outcome (chain (desk_rules input)) (diagram_text (file_diagram input))

-- ---- the same in words

-- what is to be printed, and the answer that goes with it: the lines of the refusal that the table gives, or the clause text
-- where no row is due
pub data Printed (input : List ℕ) : DeskRun → List ℕ → Type 0 where
  refusal_as_lines : (n p : ℕ) → GivenIn (desk_table input) n p → Printed input (Told (length (refusal_lines (refusal n p))) (refusal n p)) (refusal_lines (refusal n p))
  clause_text : NoneDue (desk_table input) → Printed input (Text (length (diagram_text (file_diagram input)))) (diagram_text (file_diagram input))

-- it stands at the front of a lent buffer, the rest of the buffer is kept, and the answer is the one that goes with it
pub record Prints (outcome : DeskRun) (bytes before : List ℕ) (answer : DeskAnswer) (after : List ℕ) : Type 0 where
  pub answered : answer.outcome ≡ outcome
  pub the_bytes : take (length bytes) after ≡ bytes
  pub the_rest : drop (length bytes) after ≡ drop (length bytes) before
