-- `name_reader::first_again` meets its contract: block by block. Assumes nothing.
use Rattle.std.proofs.Common.{sym, ◌∙◌, arith}
use Rattle.lists.proofs.FirstLaws.{start, found_least, least_found}
use Rattle.name_reader.proofs.BlockLaws.{within, rest_is, passed_over}
use Rattle.name_reader.proofs.first_again.Goals as goal

pub loop-block-init : goal.loop-block-init
loop-block-init c = let g = c.into_iter-block-iterator.ensures.into_iter_gives in (omega arith, rw g c.chunks-block-items.ensures.rest, rw g c.chunks-block-items.ensures.size, (start _, c.requires.marks))

pub returns-in-Some-search_again-clause-value : goal.returns-in-Some-search_again-clause-value
returns-in-Some-search_again-clause-value c =
    let l = c.loop-block in
    let w = found_least _ _ _ (sym c.search_again.ensures.value ∙ c.in-Some-search_again.is) in
    let h = within c.args.literals.now l.from c.in-Some.block.now _ (sym l.invariant.1 ∙ c.in-Some.ensures.steps.1.0) l.invariant.0 in
    sym (least_found _ _ _ (omega (arith, w.0, h)) w.1 w.2)

pub loop-block-preserved-in_default : goal.loop-block-preserved-in_default
loop-block-preserved-in_default c =
    let l = c.loop-block in
    let s = c.in-Some.ensures.steps in
    let n = sym l.invariant.1 ∙ s.1.0 in
    (within _ l.from _ _ n l.invariant.0, rest_is _ l.from _ _ n, s.0 ∙ l.invariant.2, (sym c.search_again.ensures.value ∙ c.in_default.is, c.search_again.ensures.marks c.in_default.is))

pub loop-block-preserved : goal.loop-block-preserved
loop-block-preserved c =
    let l = c.loop-block in
    let s = c.in-Some.ensures.steps in
    let n = sym l.invariant.1 ∙ s.1.0 in
    (within _ l.from _ _ n l.invariant.0, rest_is _ l.from _ _ n, s.0 ∙ l.invariant.2, passed_over _ l.from _ _ n c.args.values l.invariant.0 (sym c.has_value.ensures ∙ c.if-has_value.false) l.invariant.3)
