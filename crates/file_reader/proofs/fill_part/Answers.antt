-- `file_reader::fill_part` meets its contract: before each turn the values of the lines passed are stored. Assumes nothing.
use native.Mathlib.Omega.{arith}
use Rattle.file_reader.proofs.FillLaws.{fill_none, fill_more, fill_all, fill_part}
use Rattle.file_reader.proofs.fill_part.Goals as goal

pub loop-value-init : goal.loop-value-init
loop-value-init c = fill_none _ _ _ _

pub loop-value-preserved : goal.loop-value-preserved
loop-value-preserved c = fill_more c.loop-value.invariant c.line_or_none-line.result c.line_or_none-line.ensures

pub returns : goal.returns
returns c = fill_part c.args.text.now c.args.part.key.now c.args.part.later.now c.args.at c.args.out.now c.line_or_none-head.result c.line_or_none-head.ensures _ _ (fill_all c.args.out.now (rw c.line_or_none-head.ensures c.requires) c.loop-value.invariant (omega arith) c.loop-value-test.false)
