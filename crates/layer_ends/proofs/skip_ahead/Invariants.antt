-- `layer_ends::skip_ahead` meets its contract: before each turn all eights passed are low. Assumes nothing.
use Prim.Native.Nat.{◌-◌}
use lib.ListN.{length}
use Rattle.layer_ends.proofs.EndLaws.{Skipping}
use Rattle.layer_ends.proofs.skip_ahead.Given as goal

abbrev pub invariant-loop-v : goal.invariant-loop-v
invariant-loop-v l = Skipping l.layers l.from l.layer l.v

abbrev pub decreases-loop-v : goal.decreases-loop-v
decreases-loop-v l = length l.layers - l.v
