-- `layer_check::is_bad_layer` meets its contract. Assumes nothing.
use Prim.Native.Nat.{◌-◌}
use native.Mathlib.Omega.{arith}
use lib.ListN.{length, get_or}
use borrow.Author.Tests.{eq-eqb, ne_eqb}
use Rattle.diagram.specs.Rules.{bad_layer}
use Rattle.layer_check.proofs.LayerLaws.{breaks_by}
use Rattle.layer_check.proofs.is_bad_layer.Goals as goal

pub returns-then-v-eq0 : goal.returns-then-v-eq0
unfolding bad_layer
returns-then-v-eq0 c = simp (eq-eqb _ _ c.if-v-eq0.true)

pub returns : goal.returns
unfolding bad_layer
returns c =
    let o = c.before.before.before.before in
    let s = o.before.before.before.before in
    rw (ne_eqb _ _ o.if-v-eq0.false) (breaks_by (length s.args.domains.now) (get_or s.args.layers.now (s.args.v - 1) 0) (get_or s.args.layers.now s.args.v 0) o.options_of.ensures (omega (arith, c.type_inv.layers s.args.v)) c.breaks.ensures)
