-- `text_reader::skip_gaps` meets its contract: the same tokens stand from i on. Assumes nothing.
use mathlib.Core.Path.{sym, ◌∙◌}
use Rattle.dimacs.proofs.TokenLaws.{gap_at}
use Rattle.text_reader.proofs.skip_gaps.Goals as goal

pub loop-i-preserved : goal.loop-i-preserved
loop-i-preserved c = c.loop-i.invariant ∙ gap_at c.args.text.now c.loop-i.i c.loop-i-test.true (sym c.is_gap.ensures ∙ c.if-is_gap.true)
