-- `stray::search_stray` meets its contract: what `position` finds. Assumes nothing.
use Rattle.std.proofs.Common.{rules, ◌∙◌}
use Rattle.std.proofs.lemmas.Iterator.{YieldsList-from_slice}
use Rattle.std.proofs.lemmas.Iterator.Search.{position_from_yields_List}
use borrow.Author.Tests.{tests}
use Rattle.lists.proofs.IterLaws.{position_first}
use Rattle.stray.specs.Stray.{stray}
use Rattle.stray.proofs.search_stray.Goals as goal

pub returns : goal.returns
returns c =
    position_from_yields_List (stray c.args.range) _ _ c.position.result c.position.ensures.ran (YieldsList-from_slice c.args.part.now cc) (λ x b q k. search (rules, tests))
    ∙ position_first (stray c.args.range) c.args.part.now 0
