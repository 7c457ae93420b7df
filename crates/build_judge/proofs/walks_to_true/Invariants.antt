-- `build_judge::walks_to_true` meets its contract: the walk from node v ends where that from the root does. Assumes nothing.
use Rattle.std.specs.Prelude.{◌≡◌, suc, ◌<◌, ◌-◌, length}
use Rattle.diagram.specs.Lent.{lent_by, first_edge, chosen, end}
use Rattle.build_judge.proofs.walks_to_true.Given as goal

abbrev pub invariant-loop-v : goal.invariant-loop-v
invariant-loop-v l = (l.v < length l.lists.layers.now) × (l.a ≡ first_edge (lent_by l.lists) l.v) × (end (lent_by l.lists) (chosen l.build) (suc (suc l.v)) ≡ end (lent_by l.lists) (chosen l.build) 2)

abbrev pub decreases-loop-v : goal.decreases-loop-v
decreases-loop-v l = length l.lists.layers.now - l.v
