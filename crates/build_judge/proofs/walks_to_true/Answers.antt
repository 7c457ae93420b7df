-- `build_judge::walks_to_true` meets its contract: the walk from node v ends where that from the root does. Assumes nothing.
use Rattle.std.proofs.Common.{[], refl, sym, ◌∙◌, ap, arith}
use Rattle.diagram.specs.Lent.{lent_by, chosen, end}
use Rattle.diagram.proofs.ShapedLaws.{edge_sums, reshaped, same_edges}
use Rattle.build_judge.proofs.WalkLaws.{option, edge, small, same_end, at_end, is_node, goes_on}
use Rattle.build_judge.proofs.walks_to_true.Goals as goal

pub loop-v-init : goal.loop-v-init
loop-v-init c = (omega (arith, c.diagram.invariant.0.shaped.nodes_fit), sym (edge_sums _).none, refl)

pub overflow_sub-r : goal.overflow_sub-r
overflow_sub-r c = (option (lent_by c.diagram.inside.lists) c.diagram.invariant.0 c.args.build.now (rw c.diagram.view_is c.requires) c.loop-v-test.true c.loop-v.invariant.1).0

pub bounds-build-option : goal.bounds-build-option
bounds-build-option c = rw (c.requires.whole, ← c.diagram.view_is) (omega (arith, option (lent_by c.diagram.inside.lists) c.diagram.invariant.0 c.args.build.now (rw c.diagram.view_is c.requires) c.loop-v-test.true c.loop-v.invariant.1))

pub overflow_add-r : goal.overflow_add-r
overflow_add-r c = omega (arith, small (lent_by c.diagram.inside.lists) c.diagram.invariant.0 c.args.build.now (rw c.diagram.view_is c.requires) c.loop-v-test.true c.loop-v.invariant.1)

pub offset_bounds-lists-a : goal.offset_bounds-lists-a
offset_bounds-lists-a c = omega (arith, small (lent_by c.diagram.inside.lists) c.diagram.invariant.0 c.args.build.now (rw c.diagram.view_is c.requires) c.loop-v-test.true c.loop-v.invariant.1)

pub bounds-lists-a : goal.bounds-lists-a
bounds-lists-a c = edge (lent_by c.diagram.inside.lists) c.diagram.invariant.0 c.args.build.now (rw c.diagram.view_is c.requires) c.loop-v-test.true c.loop-v.invariant.1

pub returns-then-r-lt2 : goal.returns-then-r-lt2
returns-then-r-lt2 c = rw (← c.diagram.view_is) (at_end (lent_by c.diagram.inside.lists) c.diagram.invariant.0 c.args.build.now (rw c.diagram.view_is c.requires) c.loop-v-test.true c.loop-v.invariant.1 c.loop-v.invariant.2 c.if-r-lt2.true)

pub first_edge-a-requires-clause-shaped : goal.first_edge-a-requires-clause-shaped
first_edge-a-requires-clause-shaped c = reshaped _ _ _ _ c.diagram.invariant.0.shaped

pub first_edge-a-requires-clause-v_le_w : goal.first_edge-a-requires-clause-v_le_w
first_edge-a-requires-clause-v_le_w c = (omega (arith, goes_on (lent_by c.diagram.inside.lists) c.diagram.invariant.0 c.args.build.now (rw c.diagram.view_is c.requires) c.loop-v-test.true c.loop-v.invariant.1 c.if-r-lt2.false), omega (arith, is_node (lent_by c.diagram.inside.lists) c.diagram.invariant.0 c.args.build.now (rw c.diagram.view_is c.requires) c.loop-v-test.true c.loop-v.invariant.1 c.if-r-lt2.false))

pub first_edge-a-requires-clause-edge_value : goal.first_edge-a-requires-clause-edge_value
first_edge-a-requires-clause-edge_value c = let s = c.diagram.inside.lists in c.loop-v.invariant.1 ∙ same_edges s.domains.now s.layers.now s.targets.now [] c.loop-v.v

pub loop-v-smaller : goal.loop-v-smaller
loop-v-smaller c = omega (arith, goes_on (lent_by c.diagram.inside.lists) c.diagram.invariant.0 c.args.build.now (rw c.diagram.view_is c.requires) c.loop-v-test.true c.loop-v.invariant.1 c.if-r-lt2.false, is_node (lent_by c.diagram.inside.lists) c.diagram.invariant.0 c.args.build.now (rw c.diagram.view_is c.requires) c.loop-v-test.true c.loop-v.invariant.1 c.if-r-lt2.false)

pub loop-v-preserved : goal.loop-v-preserved
loop-v-preserved c =
    let s = c.diagram.inside.lists in
    let n = is_node (lent_by c.diagram.inside.lists) c.diagram.invariant.0 c.args.build.now (rw c.diagram.view_is c.requires) c.loop-v-test.true c.loop-v.invariant.1 c.if-r-lt2.false in
    (n.0, c.first_edge-a.ensures ∙ same_edges s.domains.now s.layers.now [] s.targets.now _, ap (end (lent_by s) (chosen c.args.build.now)) n.2 ∙ same_end (lent_by c.diagram.inside.lists) c.diagram.invariant.0 c.args.build.now (rw c.diagram.view_is c.requires) c.loop-v-test.true c.loop-v.invariant.1 c.loop-v.invariant.2)

pub returns : goal.returns
returns c = absurd (omega (arith, c.loop-v.invariant.0, c.loop-v-test.false))
