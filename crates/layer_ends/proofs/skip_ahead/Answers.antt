-- `layer_ends::skip_ahead` meets its contract: before each turn all eights passed are low. Assumes nothing.
use native.Mathlib.Omega.{arith}
use Rattle.layer_ends.proofs.EndLaws.{skip_none, skip_more, skip_above, skip_end}
use Rattle.layer_ends.proofs.skip_ahead.Goals as goal

pub loop-v-init : goal.loop-v-init
loop-v-init c = skip_none _ _ _ c.requires

pub overflow_sub-layers : goal.overflow_sub-layers
overflow_sub-layers c = omega (arith, c.loop-v.invariant.inside)

pub overflow_add-v : goal.overflow_add-v
overflow_add-v c = omega (arith, c.loop-v.invariant.inside)

pub offset_bounds-layers-v : goal.offset_bounds-layers-v
offset_bounds-layers-v c = omega (arith, c.loop-v.invariant.inside)

pub bounds-layers-v : goal.bounds-layers-v
bounds-layers-v c = omega (arith, c.loop-v.invariant.inside)

pub returns-then-layer-layers : goal.returns-then-layer-layers
returns-then-layer-layers c = let l = c.loop-v in (skip_above l.invariant (omega (arith, c.loop-v-test.true, l.invariant.inside)) c.if-layer-layers.true, l.invariant.inside)

pub overflow_add-v-in-loop-v : goal.overflow_add-v-in-loop-v
overflow_add-v-in-loop-v c = omega (arith, c.loop-v.invariant.inside)

pub loop-v-smaller : goal.loop-v-smaller
loop-v-smaller c = omega (arith, c.loop-v.invariant.inside)

pub loop-v-preserved : goal.loop-v-preserved
loop-v-preserved c = let l = c.loop-v in skip_more l.invariant (omega (arith, c.loop-v-test.true, l.invariant.inside)) c.if-layer-layers.false

pub returns : goal.returns
returns c = let l = c.loop-v in (skip_end l.invariant (omega (arith, c.loop-v-test.false, l.invariant.inside)), l.invariant.inside)
