-- `layer_targets::first_bad_target` meets its contract: none before a, the first edge of node v, is bad. Assumes nothing.
use Rattle.std.proofs.Common.{◌≡◌, length, sym, ◌∙◌, ap, arith}
use Rattle.lists.proofs.FirstLaws.{start, done}
use Rattle.diagram.specs.Lent.{lent_by, first_edge, edges}
use Rattle.diagram.proofs.ShapedLaws.{edge_sums}
use Rattle.layer_ends.proofs.LayerLaws.{ends_layer, moves_on}
use Rattle.layer_targets.proofs.LayerLaws.{turn, found_of, found_within, found_first, found_none}
use Rattle.layer_targets.proofs.first_bad_target.Goals as goal

pub loop-v-init : goal.loop-v-init
loop-v-init c = (omega arith, sym (edge_sums _).none, start _)

pub overflow_sub-next : goal.overflow_sub-next
overflow_sub-next c = omega (arith, (ends_layer (lent_by c.args.lists) c.requires.shaped _ _ _ (omega (arith, c.loop-v-test.true)) c.layer_end-next.ensures).none_above.from_on)

pub overflow_add-e : goal.overflow_add-e
overflow_add-e c = let l = c.loop-v in omega (arith, (turn (lent_by c.args.lists) c.requires.shaped c.requires.targets_len c.loop-v-test.true l.invariant.1 c.layer_end-next.ensures c.layer_edges.ensures).small)

pub offset_bounds-lists-a : goal.offset_bounds-lists-a
offset_bounds-lists-a c = let l = c.loop-v in omega (arith, (turn (lent_by c.args.lists) c.requires.shaped c.requires.targets_len c.loop-v-test.true l.invariant.1 c.layer_end-next.ensures c.layer_edges.ensures).small)

pub slice_bounds-first_stray-end : goal.slice_bounds-first_stray-end
slice_bounds-first_stray-end c = let l = c.loop-v in omega (arith, (turn (lent_by c.args.lists) c.requires.shaped c.requires.targets_len c.loop-v-test.true l.invariant.1 c.layer_end-next.ensures c.layer_edges.ensures).room)

pub overflow_add-result : goal.overflow_add-result
overflow_add-result c =
    let l = c.loop-v in
    let d = lent_by c.args.lists in
    let t = turn d c.requires.shaped c.requires.targets_len c.loop-v-test.true l.invariant.1 c.layer_end-next.ensures c.layer_edges.ensures in
    let f = found_of d c.requires.shaped c.requires.targets_len c.loop-v-test.true l.invariant.1 c.layer_end-next.ensures c.layer_edges.ensures c.range_of-range.ensures c.first_stray.ensures in
    omega (arith, t.small, found_within d c.requires.shaped c.requires.targets_len c.loop-v-test.true l.invariant.1 c.layer_end-next.ensures c.layer_edges.ensures f l.invariant.2 c.in-Some.is)

pub returns-in-Some : goal.returns-in-Some
returns-in-Some c =
    let l = c.loop-v in
    let d = lent_by c.args.lists in
    let f = found_of d c.requires.shaped c.requires.targets_len c.loop-v-test.true l.invariant.1 c.layer_end-next.ensures c.layer_edges.ensures c.range_of-range.ensures c.first_stray.ensures in
    found_first d c.requires.shaped c.requires.targets_len c.loop-v-test.true l.invariant.1 c.layer_end-next.ensures c.layer_edges.ensures f l.invariant.2 c.in-Some.is

pub loop-v-smaller : goal.loop-v-smaller
loop-v-smaller c =
    let l = c.loop-v in
    let d = lent_by c.args.lists in
    let t = turn d c.requires.shaped c.requires.targets_len c.loop-v-test.true l.invariant.1 c.layer_end-next.ensures c.layer_edges.ensures in
    omega (arith, moves_on d c.requires.shaped l.v c.layer_end-next.result c.loop-v-test.true t.end, t.end.none_above.to_last, c.loop-v-test.true)

pub loop-v-preserved : goal.loop-v-preserved
loop-v-preserved c =
    let l = c.loop-v in
    let d = lent_by c.args.lists in
    let t = turn d c.requires.shaped c.requires.targets_len c.loop-v-test.true l.invariant.1 c.layer_end-next.ensures c.layer_edges.ensures in
    let f = found_of d c.requires.shaped c.requires.targets_len c.loop-v-test.true l.invariant.1 c.layer_end-next.ensures c.layer_edges.ensures c.range_of-range.ensures c.first_stray.ensures in
    (t.end.none_above.to_last, t.is_e, found_none d c.requires.shaped c.requires.targets_len c.loop-v-test.true l.invariant.1 c.layer_end-next.ensures c.layer_edges.ensures f l.invariant.2 c.in_default.is)

pub returns : goal.returns
returns c =
    let l = c.loop-v in
    let q : l.v ≡ length c.args.lists.layers.now = omega (arith, l.invariant.0, c.loop-v-test.false) in
    let e : l.a ≡ edges (lent_by c.args.lists) = l.invariant.1 ∙ ap (first_edge _) q in
    done _ l.a _ l.invariant.2 (omega (arith, e)) (omega (arith, e))
