-- `option_check::check_options` meets its contract. Assumes nothing.
use mathlib.Core.Path.{sym, ◌∙◌}
use Rattle.refusal.proofs.RulesLaws.{tested, not_tested}
use Rattle.diagram.specs.Rules.{option_rules}
use Rattle.option_check.proofs.check_options.Goals as goal

pub returns-then-is_outside : goal.returns-then-is_outside
unfolding option_rules
returns-then-is_outside c = tested _ _ (sym c.is_outside.ensures ∙ c.if-is_outside.true) c.verdict_of.ensures

pub returns : goal.returns
unfolding option_rules
returns c =
    let f = c.before.before in
    not_tested _ _ (sym f.is_outside.ensures ∙ f.if-is_outside.false) (rw (← f.first_bad_domain.ensures) c.verdict_of-2.ensures)
