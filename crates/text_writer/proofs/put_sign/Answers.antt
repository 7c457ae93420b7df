-- `text_writer::put_sign` meets its contract. Assumes nothing.
use mathlib.Core.Path.{refl, ◌∙◌}
use mir.Syntax.{w32}
use mir.ValLaws.{to_z-of_z}
use Rattle.lists.proofs.SignedLaws.{neg_is}
use Rattle.dimacs.proofs.NumberLaws.{as_number}
use Rattle.text_writer.proofs.put_sign.Goals as goal

pub returns : goal.returns
returns c = (refl, rw (c.from.ensures ∙ as_number _, neg_is _ (to_z-of_z w32 _ c.ranges.word)))
