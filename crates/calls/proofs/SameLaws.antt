-- What a C program gets is what the library's function answers: the entries of what it says, and the same buffer. So the
-- demands hold of the one as of the other. Assumes nothing.
use mathlib.Core.Path.{◌≡◌, sym, ◌∙◌, ap}
use mathlib.Core.List.{List}
use Prim.Native.Nat.{ℕ, ◌≤◌}
use lib.IntN.{ℤ}
use lib.ListN.{length}
use Rattle.lists.specs.Buffer.{over}
use Rattle.refusal.specs.Rules.{Rule}
use Rattle.refusal.specs.Said.{Said}
use Rattle.refusal.specs.Answered.{AnsweredBy}
use Rattle.cnf.specs.Encoded.{encoded_said}
use Rattle.cnf.specs.declared.EncodeAnswer.{EncodeAnswer}
use Rattle.diagram.specs.Lent.{Lent}
use Rattle.diagram.specs.Promise.{check_said, CheckPromise}
use Rattle.diagram.specs.declared.CheckAnswer.{CheckAnswer}
use Rattle.judge.specs.Promise.{judge_said, JudgePromise}
use Rattle.judge.specs.declared.JudgeAnswer.{JudgeAnswer}
use Rattle.clauses.specs.Clauses.{edition1}
use Rattle.encoding.specs.Promise.{EncodePromise}
use Rattle.model.specs.Promise.{model_said, ModelPromise}
use Rattle.model.specs.declared.ModelAnswer.{ModelAnswer}
use Rattle.dimacs.specs.Write.{written_said, WritePromise}
use Rattle.dimacs.specs.Read.{read_said, ReadPromise}
use Rattle.dimacs.specs.declared.WriteAnswer.{WriteAnswer}
use Rattle.dimacs.specs.declared.ReadAnswer.{ReadAnswer}
use Rattle.entries.specs.Answer.{entries, silent, Answered}
use Rattle.calls.specs.Call.{Gives, Called}
use Rattle.calls.specs.Promise.{CheckCall, JudgeCall, EncodeCall, ModelCall, WriteCall, ReadCall}
use Rattle.calls.proofs.CallLaws.{check_said_lem}

given : {s t : Said} {answer answered : List ℕ} → 6 ≤ length answer → t ≡ s → Answered s answer answered → Gives t answer answered
given {answer = answer} h e p = p.long h ∙ ap (λ (u : Said). over (entries u) answer) (sym e)

both : {A B : Type 0} {said : A → Said} {rules : List Rule} {values : List ℕ} {written before : B} {a : A} {after after' : B} {answer answered : List ℕ} → 6 ≤ length answer
    → AnsweredBy said rules values written before a after → Called rules values written before answer after' answered → (after' ≡ after) × Gives (said a) answer answered
both h p q = (q.buffer.long h ∙ sym p.buffer, given h p.says q.answers)

-- ---- for an answer of six entries or more, whatever the two promises allow

module _ (answer : List ℕ) (room : 6 ≤ length answer) where
  module _ (d : Lent) where
    -- without the counts
    pub check_same : (a : CheckAnswer) (answered : List ℕ) → CheckPromise d a → CheckCall d answer answered → Gives (silent (check_said a.outcome)) answer answered
    check_same a answered p = given room (check_said_lem p)

    pub judge_same : (build : List ℕ) (a : JudgeAnswer) (answered : List ℕ) → JudgePromise d build a → JudgeCall d build answer answered → Gives (judge_said a.outcome) answer answered
    judge_same build a answered p = given room p.says

    pub encode_same : (before : List ℤ) (a : EncodeAnswer) (after after' : List ℤ) (answered : List ℕ) → EncodePromise edition1 d before a after → EncodeCall d before answer after' answered → (after' ≡ after) × Gives (encoded_said a.outcome) answer answered
    encode_same before a after after' answered = both room

    pub model_same : (m : List ℤ) (before : List ℕ) (a : ModelAnswer) (after after' answered : List ℕ) → ModelPromise edition1 d m before a after → ModelCall d m before answer after' answered → (after' ≡ after) × Gives (model_said a.outcome) answer answered
    model_same m before a after after' answered = both room

  pub write_same : (v : ℕ) (ws : List ℤ) (before : List ℕ) (a : WriteAnswer) (after after' answered : List ℕ) → WritePromise v ws before a after → WriteCall v ws before answer after' answered → (after' ≡ after) × Gives (written_said a.outcome) answer answered
  write_same v ws before a after after' answered = both room

  pub read_same : (text : List ℕ) (before : List ℤ) (a : ReadAnswer) (after after' : List ℤ) (answered : List ℕ) → ReadPromise text before a after → ReadCall text before answer after' answered → (after' ≡ after) × Gives (read_said a.outcome) answer answered
  read_same text before a after after' answered = both room
