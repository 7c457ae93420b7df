-- `desk_run::run` meets its contract: the input is too long, or its lines decide. Assumes nothing.
use mathlib.Core.Path.{refl}
use Rattle.desk.proofs.RunLaws.{printed_as, too_long, not_long}
use Rattle.desk_run.proofs.run.Goals as goal

pub returns-then-input-gt-INPUT : goal.returns-then-input-gt-INPUT
returns-then-input-gt-INPUT c = printed_as (too_long _ c.if-input-gt-INPUT.true) refl c.print_refusal.ensures

pub returns : goal.returns
returns c = printed_as (not_long _ c.if-input-gt-INPUT.false) refl c.print_file.ensures
