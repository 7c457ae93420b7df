-- `layer_check::count_bad_layers` meets its contract: n is the count of the nodes after the root and before node v. Assumes nothing.
use Rattle.std.proofs.Common.{◌≡◌, [], ℕ, ◌+◌, ◌-◌, length, sym, ◌∙◌, arith}
use lib.ListN.{get_or}
use Rattle.lists.proofs.FirstLaws.{count_start, count_pass, count_found, count_most}
use Rattle.diagram.specs.Lent.{lent}
use Rattle.diagram.specs.Rules.{bad_layer}
use Rattle.layer_check.proofs.LayerLaws.{after_root, breaks_by}
use Rattle.layer_check.proofs.count_bad_layers.Goals as goal
use Rattle.layer_check.proofs.count_bad_layers.Goals.{then-breaks, else-breaks}

pub loop-v-init : goal.loop-v-init
loop-v-init c = sym (count_start _)

pub overflow_add-n : goal.overflow_add-n
overflow_add-n c =
    let l = c.loop-v in
    let s = c.args in
    omega (arith, c.requires, l.invariant, c.loop-v-test.true, count_most (λ (k : ℕ). bad_layer (lent s.domains.now s.layers.now []) (1 + k)) (l.v - 1))

pub loop-v-preserved : goal.loop-v-preserved
loop-v-preserved c =
    let l = c.loop-v in
    let s = c.args in
    let q : l.v - 1 + 1 ≡ l.v = omega arith in
    let r : l.v + 1 - 1 ≡ l.v - 1 + 1 = omega arith in
    let e = rw q at (after_root (lent s.domains.now s.layers.now []) (l.v - 1)) ∙ sym (breaks_by (length s.domains.now) (get_or s.layers.now (l.v - 1) 0) (get_or s.layers.now l.v 0) c.options_of-options.ensures (omega (arith, c.type_inv.layers l.v)) c.breaks.ensures) in
    rw r (elim c.if-breaks.branch [
      | then-breaks w ↦ w.n-is ∙ count_found _ (l.v - 1) l.invariant (e ∙ w.if-breaks.true)
      | else-breaks w ↦ w.n-is ∙ count_pass _ (l.v - 1) l.invariant (e ∙ w.if-breaks.false)
    ])
