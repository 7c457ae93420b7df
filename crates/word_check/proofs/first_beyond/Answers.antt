-- `word_check::first_beyond` meets its contract: what `position` finds. Assumes nothing.
use Rattle.std.proofs.Common.{rules, ◌∙◌}
use Rattle.std.specs.Prelude.{ℤ, pos}
use Rattle.std.proofs.lemmas.Iterator.{YieldsList-from_slice}
use Rattle.std.proofs.lemmas.Iterator.Search.{position_from_yields_List}
use borrow.Author.Tests.{tests}
use Rattle.lists.proofs.IterLaws.{position_first}
use Rattle.lists.specs.Signed.{beyond}
use Rattle.word_check.proofs.first_beyond.Goals as goal

pub returns : goal.returns
returns c =
    let e =
    position_from_yields_List (λ (x : ℤ). beyond c.args.variables x) _ _ c.position.result c.position.ensures.ran (YieldsList-from_slice c.args.words.now cc) (λ x b q k. search (rules, tests))
    ∙ position_first (λ x. beyond c.args.variables x) c.args.words.now (pos 0)
    in rw (c.if-not-some.false) e
