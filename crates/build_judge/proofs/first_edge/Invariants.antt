-- `build_judge::first_edge` meets its contract: e is the first edge of the node that is next. Assumes nothing.
use Rattle.std.specs.Prelude.{◌≡◌, [], ◌+◌}
use Rattle.diagram.specs.Lent.{lent, first_edge}
use Rattle.build_judge.proofs.first_edge.Given as goal

abbrev pub invariant-loop-layer : goal.invariant-loop-layer
invariant-loop-layer l = l.e ≡ first_edge (lent l.fn.domains l.fn.layers []) (l.fn.v + l.layer-index)
