-- `text_reader::skip_gaps` meets its contract: the same tokens stand from i on. Assumes nothing.
use Rattle.std.specs.Prelude.{◌≡◌, ◌-◌, length}
use Rattle.dimacs.specs.Rules.{tokens_from}
use Rattle.text_reader.proofs.skip_gaps.Given as goal

abbrev pub invariant-loop-i : goal.invariant-loop-i
invariant-loop-i l = tokens_from l.text l.at ≡ tokens_from l.text l.i

abbrev pub decreases-loop-i : goal.decreases-loop-i
decreases-loop-i l = length l.text - l.i
