-- Demand 1: whatever an entry point is lent, it refuses by the number and the place of its table, exactly when a row says so, and
-- a refusal changes no lent buffer. (That an answer comes at all is that the functions are proved.) Assumes nothing.
use Rattle.std.specs.Prelude.{◌≡◌, List, [], ◌∷◌, ℕ, ◌≤◌, ℤ, length}
use Rattle.refusal.specs.Table.{Row, room_row, ExactlyWhen}
use Rattle.refusal.specs.declared.Refusal.{Refusal}
use Rattle.cnf.specs.declared.Encoded.TheVariants as encoded
use Rattle.cnf.specs.declared.EncodeAnswer.{EncodeAnswer}
use Rattle.diagram.specs.Lent.{Lent}
use Rattle.diagram.specs.Sound.{check_table}
use Rattle.diagram.specs.Promise.{CheckPromise}
use Rattle.diagram.specs.declared.Checked.TheVariants as checked
use Rattle.diagram.specs.declared.CheckAnswer.{CheckAnswer}
use Rattle.judge.specs.Build.{judge_table}
use Rattle.judge.specs.Promise.{JudgePromise}
use Rattle.judge.specs.declared.Judged.TheVariants as judged
use Rattle.judge.specs.declared.JudgeAnswer.{JudgeAnswer}
use Rattle.clauses.specs.Clauses.{edition1}
use Rattle.encoding.specs.Promise.{encode_table, EncodePromise}
use Rattle.model.specs.Model.{model_table}
use Rattle.model.specs.Promise.{ModelPromise}
use Rattle.model.specs.declared.ModelRead.TheVariants as model
use Rattle.model.specs.declared.ModelAnswer.{ModelAnswer}
use Rattle.dimacs.specs.Write.{write_table, WritePromise}
use Rattle.dimacs.specs.Read.{ReadPromise}
use Rattle.dimacs.specs.Rules.{read_table}
use Rattle.dimacs.specs.declared.TextWritten.TheVariants as written
use Rattle.dimacs.specs.declared.WriteAnswer.{WriteAnswer}
use Rattle.dimacs.specs.declared.TextRead.TheVariants as read
use Rattle.dimacs.specs.declared.ReadAnswer.{ReadAnswer}
use Rattle.diagram_file.specs.Rules.{file_table}
use Rattle.diagram_file.specs.Promise.{room_of, FilePromise}
use Rattle.diagram_file.specs.declared.FileRead.TheVariants as file
use Rattle.diagram_file.specs.declared.FileAnswer.{FileAnswer}
use Rattle.desk.specs.Promise.{DeskPromise, Printed, Prints}
use Rattle.desk.specs.declared.DeskRun.{DeskRun}
use Rattle.desk.specs.declared.DeskRun.TheVariants as run
use Rattle.desk.specs.declared.DeskAnswer.{DeskAnswer}

-- `Is r` says that the answer is the refusal r; before and after are what the lent buffer holds
pub record Refuses {B : Type 0} (table : List Row) (Is : Refusal → Type 0) (before after : B) : Type 0 where
  pub exactly : ExactlyWhen table Is
  pub keeps : (r : Refusal) → Is r → after ≡ before

-- for every outcome that an entry point's promise allows
pub record Demand1 : Type 0 where
  pub check : (d : Lent) (a : CheckAnswer) → CheckPromise d a → ExactlyWhen (check_table d) (λ r. a.outcome ≡ checked.Refused r)
  pub judge : (d : Lent) (build : List ℕ) (a : JudgeAnswer) → JudgePromise d build a → ExactlyWhen (judge_table d build) (λ r. a.outcome ≡ judged.Refused r)
  pub encode : (d : Lent) (before : List ℤ) (a : EncodeAnswer) (after : List ℤ) → EncodePromise edition1 d before a after
      → Refuses (encode_table edition1 d (length before)) (λ r. a.outcome ≡ encoded.Refused r) before after
  pub read_model : (d : Lent) (m : List ℤ) (before : List ℕ) (a : ModelAnswer) (after : List ℕ) → ModelPromise edition1 d m before a after
      → Refuses (model_table d m edition1 (length before)) (λ r. a.outcome ≡ model.Refused r) before after
  pub write_text : (v : ℕ) (ws : List ℤ) (before : List ℕ) (a : WriteAnswer) (after : List ℕ) → WritePromise v ws before a after
      → Refuses (write_table v ws (length before)) (λ r. a.outcome ≡ written.Refused r) before after
  pub read_text : (text : List ℕ) (before : List ℤ) (a : ReadAnswer) (after : List ℤ) → ReadPromise text before a after
      → Refuses (read_table text (length before)) (λ r. a.outcome ≡ read.Refused r) before after
  pub read_diagram : (text : List ℕ) (before : Lent) (a : FileAnswer) (after : Lent) → FilePromise text before a after
      → Refuses (file_table text (room_of before)) (λ r. a.outcome ≡ file.Refused r) before after
  -- of what the program is to print: it is answered, and stands at the buffer's front, where it fits; number 7 where it does not
  pub run_desk : (input before : List ℕ) (a : DeskAnswer) (after : List ℕ) → DeskPromise input before a after → (o : DeskRun) (bytes : List ℕ) → Printed input o bytes
      → Refuses (room_row (length bytes) (length before) ∷ []) (λ r. a.outcome ≡ run.Refused r) before after × (length bytes ≤ length before → Prints o bytes before a after)
  -- there is always something to print, and it is never more than 73,750 bytes
  pub printed : (input : List ℕ) → (o : DeskRun) × (bytes : List ℕ) × Printed input o bytes × (length bytes ≤ 73750)
