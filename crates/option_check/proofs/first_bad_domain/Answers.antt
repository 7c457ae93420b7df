-- `option_check::first_bad_domain` meets its contract: what `position` finds. Assumes nothing.
use Rattle.std.proofs.Common.{rules, ◌∙◌}
use Rattle.std.specs.Prelude.{ℕ}
use Rattle.std.proofs.lemmas.Iterator.{YieldsList-from_slice}
use Rattle.std.proofs.lemmas.Iterator.Search.{position_from_yields_List}
use borrow.Author.Tests.{tests}
use Rattle.lists.proofs.IterLaws.{position_first}
use Rattle.diagram.specs.Rules.{outside}
use Rattle.option_check.proofs.first_bad_domain.Goals as goal

pub returns : goal.returns
returns c =
    position_from_yields_List (λ (x : ℕ). outside 1 32 x) _ _ c.position.result c.position.ensures.ran (YieldsList-from_slice c.args.domains.now cc) (λ x b q k. search (rules, tests))
    ∙ position_first (λ x. outside 1 32 x) c.args.domains.now 0
