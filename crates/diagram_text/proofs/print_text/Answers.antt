-- `diagram_text::print_text` meets its contract: what the writer of clause text answers. Assumes nothing.
use Rattle.std.proofs.Common.{refl}
use Rattle.dimacs.specs.declared.TextWritten.TheVariants.{Written, Refused}
use Rattle.desk.specs.declared.DeskRun.TheVariants as run
use Rattle.desk.proofs.RunLaws.{text_printed}
use Rattle.diagram_text.proofs.print_text.Goals as goal

pub returns-in-Written : goal.returns-in-Written
returns-in-Written c = text_printed _ _ _ c.requires c.write_text.ensures (Written c.in-Written.bytes) (run.Text c.in-Written.bytes) c.in-Written.is refl

pub returns-in-Refused : goal.returns-in-Refused
returns-in-Refused c = text_printed _ _ _ c.requires c.write_text.ensures (Refused c.in-Refused.r) (run.Refused c.in-Refused.r) c.in-Refused.is refl
