-- What the answer of `read_diagram` tells, and how long the lists of a file's diagram are. Assumes nothing.
use mathlib.Core.Path.{◌≡◌, refl, ap}
use mathlib.Core.Logic.{◌↔◌}
use mathlib.Core.List.{List}
use Prim.Native.Nat.{ℕ}
use lib.ListN.{length}
use Rattle.lists.proofs.UptoLaws.{list_singles}
use Rattle.refusal.specs.Table.{NoneDue, ExactlyWhen}
use Rattle.refusal.specs.declared.Refusal.{Refusal}
use Rattle.refusal.proofs.TableLaws.{passed_exactly}
use Rattle.refusal.proofs.AnsweredLaws.{Told, told}
use Rattle.diagram.specs.Lent.{Lent}
use Rattle.diagram_file.specs.File.{option_count, node_count, edge_count, values_after, file_diagram}
use Rattle.diagram_file.specs.Rules.{file_rules, file_table}
use Rattle.diagram_file.specs.Promise.{sizes, sizes_said, sizes_of, file_said, room_of, over_lent, FilePromise, file_said_once}
use Rattle.diagram_file.specs.declared.Sizes.{Sizes}
use Rattle.diagram_file.specs.declared.FileRead.{FileRead}
use Rattle.diagram_file.specs.declared.FileRead.TheVariants.{Read, Refused}
use Rattle.diagram_file.specs.declared.FileAnswer.{FileAnswer}
use Rattle.diagram_file.proofs.FileLaws.{file_faithful}

-- the lists of a file's diagram are as long as its lines say
pub file_lengths : (text : List ℕ) → (length (file_diagram text).domains ≡ option_count text) × (length (file_diagram text).layers ≡ node_count text) × (length (file_diagram text).targets ≡ edge_count text)
unfolding values_after
file_lengths text = (list_singles (option_count text) _, list_singles (node_count text) _, list_singles (edge_count text) _)

sizes_in : FileRead → Sizes
sizes_in (Read s) = s
sizes_in (Refused r) = sizes 0 0 0

module _ (text : List ℕ) (before : Lent) (answer : FileAnswer) (after : Lent) (promise : FilePromise text before answer after) where
  tells : Told file_said Refused (file_rules text (room_of before)) (sizes_said (sizes_of text)) (over_lent (file_diagram text) before) before answer.outcome after
  tells = told file_said file_said_once Refused (λ r. refl) promise

  -- 20 and 21 are given exactly when a row of the table gives them, line by line
  pub file_exactly_when : ExactlyWhen (file_table text (room_of before)) (λ r. answer.outcome ≡ Refused r)
  file_exactly_when = tells.told_when (file_table text (room_of before)) (file_faithful text (room_of before))

  -- a refusal keeps the lists
  pub file_keeps : (r : Refusal) → answer.outcome ≡ Refused r → after ≡ before
  file_keeps = tells.told_keeps

  -- "read" is answered with sizes exactly when no row of the table is due and they are the file's
  pub file_exactly : (s : Sizes) → (answer.outcome ≡ Read s) ↔ (NoneDue (file_table text (room_of before)) × (s ≡ sizes_of text))
  unfolding sizes_in
  file_exactly s =
      let w = tells.told_result (Read s) _ _ refl in
      let n = passed_exactly (file_rules text (room_of before)) (file_table text (room_of before)) (file_faithful text (room_of before)) in (
        (λ q. let p = w.0 q in (n.0 p.0, ap sizes_in (file_said_once (Read s) (Read (sizes_of text)) p.1))),
        (λ p. w.1 (n.1 p.0, ap (λ (s : Sizes). file_said (Read s)) p.1)),
      )

  -- and then the lists begin with the file's diagram, and hold past it what they held before
  pub file_lists : (s : Sizes) → answer.outcome ≡ Read s → after ≡ over_lent (file_diagram text) before
  file_lists s q = tells.told_leaves ((tells.told_result (Read s) _ _ refl).0 q).0
