-- `build_check::check_build` meets its contract. Assumes nothing.
use mathlib.Core.Path.{ap}
use mathlib.Core.Bool.{not}
use borrow.Author.Tests.{eq-eqb, ne_eqb}
use Rattle.refusal.proofs.RulesLaws.{tested, not_tested}
use Rattle.judge.specs.Build.{build_rules}
use Rattle.build_check.proofs.check_build.Goals as goal

pub returns-then-build-domains : goal.returns-then-build-domains
unfolding build_rules
returns-then-build-domains c = tested _ _ (ap not (ne_eqb _ _ c.if-build-domains.true)) c.verdict_of.ensures

pub returns : goal.returns
unfolding build_rules
returns c = not_tested _ _ (ap not (eq-eqb _ _ c.if-build-domains.false)) (rw (← c.first_bad_value.ensures) c.verdict_of-2.ensures)
