-- `layer_ends::layer_end` meets its contract: past the eights, the first node above the layer. Assumes nothing.
use Rattle.std.proofs.Common.{arith}
use Rattle.layer_ends.proofs.EndLaws.{past_end, ends_within, ends_above, ends_last}
use Rattle.layer_ends.proofs.layer_end.Goals as goal

pub returns-then-layers-from : goal.returns-then-layers-from
returns-then-layers-from c = past_end _ _ _ c.if-layers-from.true

pub overflow_add-result : goal.overflow_add-result
overflow_add-result c = omega (arith, ends_within c.args.layers.now c.args.from c.args.layer _ c.if-layers-from.false c.skip_ahead-start.ensures.0 c.first_above.ensures c.skip_ahead-start.ensures.1 c.in-Some.is)

pub returns-in-Some : goal.returns-in-Some
returns-in-Some c = ends_above c.args.layers.now c.args.from c.args.layer _ c.if-layers-from.false c.skip_ahead-start.ensures.0 c.first_above.ensures c.in-Some.is

pub returns-in-None : goal.returns-in-None
returns-in-None c = ends_last c.args.layers.now c.args.from c.args.layer _ c.if-layers-from.false c.skip_ahead-start.ensures.0 c.first_above.ensures c.skip_ahead-start.ensures.1 c.in-None.is
