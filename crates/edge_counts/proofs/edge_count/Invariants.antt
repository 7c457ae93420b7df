-- `edge_counts::edge_count` meets its contract: e is the number of edges of the nodes before w. Assumes nothing.
use mathlib.Core.Path.{◌≡◌}
use mathlib.Core.List.{[]}
use Prim.Native.Nat.{◌≤◌, ◌-◌}
use lib.ListN.{length}
use Rattle.diagram.specs.Lent.{lent, first_edge}
use Rattle.edge_counts.proofs.edge_count.Given as goal

abbrev pub invariant-loop-w : goal.invariant-loop-w
invariant-loop-w l = (l.w ≤ length l.layers) × (l.e ≡ first_edge (lent l.domains l.layers []) l.w)

abbrev pub decreases-loop-w : goal.decreases-loop-w
decreases-loop-w l = length l.layers - l.w
