-- `encoder::emit_nodes` meets its contract: before turn v the first v nodes stand there, i is an option not after that of
-- node v, and edge is the first edge of node v. Assumes nothing.
use Rattle.std.proofs.Common.{[], ◌≡◌, length, ◌≤◌, ◌+◌, sym, arith}
use native.Mathlib.Nat.{le_refl}
use Rattle.lists.proofs.BufferLaws.{kept, begin, turn, wrote_as}
use Rattle.cnf.specs.Clause.{words}
use Rattle.diagram.specs.Lent.{lent_by, options}
use Rattle.diagram.proofs.NumberLaws.{value_sums, values_most, same_values}
use Rattle.diagram.proofs.ShapedLaws.{layers_rise, edge_sums}
use Rattle.clauses.specs.Clauses.{node_clauses}
use Rattle.encoding.proofs.ClauseLaws.{each_wrote}
use Rattle.encoder.proofs.EncodeLaws.{few_targets, node_option, edges_end, node_here, node_fits, node_front, nodes_room, nodes_wrote}
use Rattle.encoder.proofs.emit_nodes.Goals as goal

pub loop-v-init : goal.loop-v-init
loop-v-init c = ((λ h. omega arith), sym (value_sums _).none, sym (edge_sums _).none, begin _)

-- the option, and the values before it
pub overflow_sub-option : goal.overflow_sub-option
overflow_sub-option c = (node_option (lent_by c.diagram.inside.lists) c.diagram.invariant.0 c.loop-v-test.true c.loop-v.invariant.2).0

pub values_before-before-requires-clause-i_le_option : goal.values_before-before-requires-clause-i_le_option
values_before-before-requires-clause-i_le_option c = (c.loop-v.invariant.0 c.loop-v-test.true, omega (arith, node_option (lent_by c.diagram.inside.lists) c.diagram.invariant.0 c.loop-v-test.true c.loop-v.invariant.2))

pub values_before-before-requires-clause-domains_bound : goal.values_before-before-requires-clause-domains_bound
values_before-before-requires-clause-domains_bound c =
    let s = c.diagram.inside.lists in
    let d = lent_by s in
    omega (arith, same_values s.domains.now [] [] s.layers.now s.targets.now (options d), values_most d c.diagram.invariant.0.shaped (options d) (le_refl _))

-- the end of its edges
pub bounds-lists-option : goal.bounds-lists-option
bounds-lists-option c = omega (arith, node_option (lent_by c.diagram.inside.lists) c.diagram.invariant.0 c.loop-v-test.true c.loop-v.invariant.2)

pub overflow_add-next : goal.overflow_add-next
overflow_add-next c = omega (arith, edges_end (lent_by c.diagram.inside.lists) c.diagram.invariant.0 c.loop-v-test.true c.loop-v.invariant.2, few_targets (lent_by c.diagram.inside.lists) c.diagram.invariant.0)

-- the part of the buffer, and of the targets
pub offset_bounds-out-p : goal.offset_bounds-out-p
offset_bounds-out-p c = omega (arith, node_fits (lent_by c.diagram.inside.lists) c.diagram.invariant.0 c.loop-v-test.true c.loop-v.invariant.2 c.diagram.invariant.1 c.values_before-before.ensures (nodes_room c.diagram.view_is _ _ c.requires) c.loop-v.invariant.3, kept c.loop-v.invariant.3)

pub slice_bounds-emit_node-count : goal.slice_bounds-emit_node-count
slice_bounds-emit_node-count c = omega (arith, node_fits (lent_by c.diagram.inside.lists) c.diagram.invariant.0 c.loop-v-test.true c.loop-v.invariant.2 c.diagram.invariant.1 c.values_before-before.ensures (nodes_room c.diagram.view_is _ _ c.requires) c.loop-v.invariant.3)

pub slice_bounds-emit_node-start : goal.slice_bounds-emit_node-start
slice_bounds-emit_node-start c = omega (arith, node_fits (lent_by c.diagram.inside.lists) c.diagram.invariant.0 c.loop-v-test.true c.loop-v.invariant.2 c.diagram.invariant.1 c.values_before-before.ensures (nodes_room c.diagram.view_is _ _ c.requires) c.loop-v.invariant.3)

pub overflow_cast-edge : goal.overflow_cast-edge
overflow_cast-edge c = omega (arith, edges_end (lent_by c.diagram.inside.lists) c.diagram.invariant.0 c.loop-v-test.true c.loop-v.invariant.2, few_targets (lent_by c.diagram.inside.lists) c.diagram.invariant.0)

pub offset_bounds-lists-edge : goal.offset_bounds-lists-edge
offset_bounds-lists-edge c = omega (arith, edges_end (lent_by c.diagram.inside.lists) c.diagram.invariant.0 c.loop-v-test.true c.loop-v.invariant.2, few_targets (lent_by c.diagram.inside.lists) c.diagram.invariant.0)

pub slice_bounds-emit_node-end-in-loop-v : goal.slice_bounds-emit_node-end-in-loop-v
slice_bounds-emit_node-end-in-loop-v c = omega (arith, edges_end (lent_by c.diagram.inside.lists) c.diagram.invariant.0 c.loop-v-test.true c.loop-v.invariant.2)

-- its words
pub overflow_add-p : goal.overflow_add-p
overflow_add-p c = omega (arith, node_fits (lent_by c.diagram.inside.lists) c.diagram.invariant.0 c.loop-v-test.true c.loop-v.invariant.2 c.diagram.invariant.1 c.values_before-before.ensures (nodes_room c.diagram.view_is _ _ c.requires) c.loop-v.invariant.3, kept c.loop-v.invariant.3, (node_front (lent_by c.diagram.inside.lists) c.diagram.invariant.0 c.loop-v-test.true c.loop-v.invariant.2 c.diagram.invariant.1 c.values_before-before.ensures (nodes_room c.diagram.view_is _ _ c.requires) c.loop-v.invariant.3 c.emit_node-p.ensures).next)

pub loop-v-preserved : goal.loop-v-preserved
loop-v-preserved c =
    let l = c.loop-v in
    let d = lent_by c.diagram.inside.lists in (
      (λ h. let k : l.v ≤ l.v + 1 = omega arith in omega (arith, layers_rise d c.diagram.invariant.0.shaped l.v (l.v + 1) k h)),
      c.values_before-before.ensures,
      omega (arith, l.invariant.2, (edge_sums d).more l.v),
      turn (λ v. words (node_clauses d v)) l.invariant.3 (wrote_as (node_front (lent_by c.diagram.inside.lists) c.diagram.invariant.0 c.loop-v-test.true c.loop-v.invariant.2 c.diagram.invariant.1 c.values_before-before.ensures (nodes_room c.diagram.view_is _ _ c.requires) c.loop-v.invariant.3 c.emit_node-p.ensures) (node_here (lent_by c.diagram.inside.lists) c.diagram.invariant.0 c.loop-v-test.true c.loop-v.invariant.2 c.diagram.invariant.1 c.values_before-before.ensures)),
    )

pub returns : goal.returns
returns c =
    let l = c.loop-v in
    let q : l.v ≡ length c.diagram.inside.lists.layers.now = omega (arith, c.loop-v-test.false, l.auto.v-end) in
    nodes_wrote c.diagram.view_is _ _ _ _ (each_wrote _ _ (rw q at l.invariant.3))
