-- `shape::check_nodes` meets its contract. Assumes nothing.
use mathlib.Core.Path.{sym, ◌∙◌}
use Rattle.refusal.proofs.RulesLaws.{tested, not_tested}
use Rattle.diagram.specs.Rules.{node_rules}
use Rattle.shape.proofs.check_nodes.Goals as goal

pub returns-then-is_outside : goal.returns-then-is_outside
unfolding node_rules
returns-then-is_outside c = tested _ _ (sym c.is_outside.ensures ∙ c.if-is_outside.true) c.verdict_of.ensures

pub returns : goal.returns
unfolding node_rules
returns c =
    let f = c.before.before in
    not_tested _ _ (sym f.is_outside.ensures ∙ f.if-is_outside.false) (rw (← f.first_bad_layer.ensures) c.verdict_of-2.ensures)
