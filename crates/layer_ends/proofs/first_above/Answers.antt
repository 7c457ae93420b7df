-- `layer_ends::first_above` meets its contract: what `position` finds. Assumes nothing.
use Rattle.std.specs.Prelude.{ℕ, ltb}
use Rattle.std.proofs.Common.{rules, ◌∙◌}
use Rattle.std.proofs.lemmas.Iterator.{YieldsList-from_slice}
use Rattle.std.proofs.lemmas.Iterator.Search.{position_from_yields_List}
use borrow.Author.Tests.{tests}
use Rattle.lists.proofs.IterLaws.{position_first}
use Rattle.layer_ends.proofs.first_above.Goals as goal

pub returns : goal.returns
returns c =
    position_from_yields_List (λ (l : ℕ). ltb c.args.layer l) _ _ c.position.result c.position.ensures.ran (YieldsList-from_slice c.args.layers.now cc) (λ x b q k. search (rules, tests))
    ∙ position_first (λ l. ltb c.args.layer l) c.args.layers.now 0
