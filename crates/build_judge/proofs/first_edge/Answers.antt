-- `build_judge::first_edge` meets its contract: e is the first edge of the node that is next. Assumes nothing.
use Rattle.std.proofs.Common.{◌≡◌, ◌+◌, ◌∙◌, ap, arith}
use Rattle.diagram.specs.Lent.{first_edge}
use Rattle.build_judge.proofs.WalkLaws.{its_option, its_edges, few_edges}
use Rattle.build_judge.proofs.first_edge.Goals as goal

pub overflow_sub-e : goal.overflow_sub-e
overflow_sub-e c = (its_option c.args.domains.now c.args.layers.now c.requires.shaped c.requires.v_le_w c.loop-layer-test.true c.loop-layer.invariant).0

pub bounds-domains-option : goal.bounds-domains-option
bounds-domains-option c = omega (arith, its_option c.args.domains.now c.args.layers.now c.requires.shaped c.requires.v_le_w c.loop-layer-test.true c.loop-layer.invariant)

pub overflow_add-e : goal.overflow_add-e
overflow_add-e c = omega (arith, few_edges c.args.domains.now c.args.layers.now c.requires.shaped c.requires.v_le_w c.loop-layer-test.true c.loop-layer.invariant)

pub loop-layer-preserved : goal.loop-layer-preserved
loop-layer-preserved c =
    let q : c.args.v + c.loop-layer.layer-index + 1 ≡ c.args.v + (c.loop-layer.layer-index + 1) = omega arith in
    its_edges c.args.domains.now c.args.layers.now c.requires.shaped c.requires.v_le_w c.loop-layer-test.true c.loop-layer.invariant ∙ ap (first_edge _) q
