-- `layer_targets::first_bad_target` meets its contract: none before a, the first edge of node v, is bad. Assumes nothing.
use Rattle.std.specs.Prelude.{None}
use mathlib.Core.Path.{◌≡◌}
use Prim.Native.Nat.{◌≤◌, ◌-◌}
use lib.ListN.{length}
use Rattle.lists.specs.First.{first}
use Rattle.diagram.specs.Lent.{lent_by, first_edge}
use Rattle.diagram.specs.Rules.{bad_target}
use Rattle.layer_targets.proofs.first_bad_target.Given as goal

abbrev pub invariant-loop-v : goal.invariant-loop-v
invariant-loop-v l = (l.v ≤ length l.lists.layers.now) × (l.a ≡ first_edge (lent_by l.lists) l.v) × (first (bad_target (lent_by l.lists)) l.a ≡ None)

abbrev pub decreases-loop-v : goal.decreases-loop-v
decreases-loop-v l = length l.lists.layers.now - l.v
