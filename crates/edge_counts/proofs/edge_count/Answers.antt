-- `edge_counts::edge_count` meets its contract: e is the number of edges of the nodes before w. Assumes nothing.
use Rattle.std.proofs.Common.{[], ◌≡◌, length, sym, arith}
use Rattle.diagram.specs.Lent.{lent}
use Rattle.diagram.proofs.ShapedLaws.{edge_sums}
use Rattle.layer_ends.proofs.LayerLaws.{ends_layer}
use Rattle.edge_counts.proofs.CountLaws.{turn_end, turn_edges, turn_few, turn_on}
use Rattle.edge_counts.proofs.edge_count.Goals as goal

pub loop-w-init : goal.loop-w-init
loop-w-init c = (omega arith, sym (edge_sums _).none)

pub overflow_sub-next : goal.overflow_sub-next
overflow_sub-next c = omega (arith, (ends_layer (lent c.args.domains.now c.args.layers.now []) c.requires _ _ _ (omega (arith, c.loop-w-test.true)) c.layer_end-next.ensures).none_above.from_on)

pub overflow_add-e : goal.overflow_add-e
overflow_add-e c = omega (arith, turn_few (lent c.args.domains.now c.args.layers.now []) c.requires c.loop-w-test.true c.loop-w.invariant.1 c.layer_end-next.ensures c.layer_edges-e.ensures)

pub loop-w-smaller : goal.loop-w-smaller
loop-w-smaller c = omega (arith, turn_on (lent c.args.domains.now c.args.layers.now []) c.requires c.loop-w-test.true c.loop-w.invariant.1 c.layer_end-next.ensures c.layer_edges-e.ensures, (turn_end (lent c.args.domains.now c.args.layers.now []) c.requires c.loop-w-test.true c.loop-w.invariant.1 c.layer_end-next.ensures c.layer_edges-e.ensures).none_above.to_last, c.loop-w-test.true)

pub loop-w-preserved : goal.loop-w-preserved
loop-w-preserved c = ((turn_end (lent c.args.domains.now c.args.layers.now []) c.requires c.loop-w-test.true c.loop-w.invariant.1 c.layer_end-next.ensures c.layer_edges-e.ensures).none_above.to_last, turn_edges (lent c.args.domains.now c.args.layers.now []) c.requires c.loop-w-test.true c.loop-w.invariant.1 c.layer_end-next.ensures c.layer_edges-e.ensures)

pub returns : goal.returns
returns c =
    let l = c.loop-w in
    let q : l.w ≡ length c.args.layers.now = omega (arith, l.invariant.0, c.loop-w-test.false) in
    rw (← q) l.invariant.1
