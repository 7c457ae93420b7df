-- `layer_check::first_bad_layer` meets its contract: where the root is as it should be and the count is 0, a search finds
-- nothing. Assumes nothing.
use Rattle.std.proofs.Common.{◌≡◌, [], ℕ, ◌+◌, ◌-◌, length, sym, ◌∙◌, arith}
use Rattle.lists.proofs.FirstLaws.{start, pass, stop, on_none, count_none}
use Rattle.diagram.specs.Lent.{lent}
use Rattle.diagram.specs.Rules.{bad_layer}
use Rattle.diagram.proofs.ShapedLaws.{inside}
use Rattle.layer_check.proofs.first_bad_layer.Goals as goal

pub is_bad_layer-requires : goal.is_bad_layer-requires
is_bad_layer-requires c = omega (arith, (inside 1 4096 (length c.args.layers.now) (sym c.is_outside.ensures ∙ c.if-is_outside.false)).0)

pub returns-then-is_bad_layer : goal.returns-then-is_bad_layer
returns-then-is_bad_layer c = stop _ 0 _ (start _) (sym c.is_bad_layer.ensures ∙ c.if-is_bad_layer.true) (omega (arith, (inside 1 4096 (length c.args.layers.now) (sym c.is_outside.ensures ∙ c.if-is_outside.false)).0))

pub count_bad_layers-requires : goal.count_bad_layers-requires
count_bad_layers-requires c = inside 1 4096 (length c.args.layers.now) (sym c.is_outside.ensures ∙ c.if-is_outside.false)

pub returns-then-count_bad_layers-eq0 : goal.returns-then-count_bad_layers-eq0
returns-then-count_bad_layers-eq0 c =
    let s = c.args in
    let ls = s.layers.now in
    let bad = bad_layer (lent s.domains.now ls []) in
    let q : 1 + (length ls - 1) ≡ length ls = omega (arith, (inside 1 4096 (length c.args.layers.now) (sym c.is_outside.ensures ∙ c.if-is_outside.false)).0) in
    sym (rw q at (on_none bad 1 (pass bad 0 (start bad) (sym c.is_bad_layer.ensures ∙ c.if-is_bad_layer.false)) (length ls - 1) (count_none (λ (j : ℕ). bad (1 + j)) (length ls - 1) (sym c.count_bad_layers.ensures ∙ c.if-count_bad_layers-eq0.true))))
