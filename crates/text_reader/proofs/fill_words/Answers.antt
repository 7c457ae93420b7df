-- `text_reader::fill_words` meets its contract: before each turn the words so far stand in the list. Assumes nothing.
use mathlib.Core.Path.{sym, ◌∙◌, subst}
use native.Mathlib.Omega.{arith}
use mir.Syntax.{w32}
use mir.Val.{SFits}
use mir.ValLaws.{to_z-of_z}
use Rattle.lists.proofs.SignedLaws.{abs_fits}
use Rattle.lists.proofs.BufferLaws.{over_all, written}
use Rattle.dimacs.specs.Rules.{tokens_from}
use Rattle.dimacs.proofs.PassLaws.{words_of_length}
use Rattle.dimacs.proofs.TokenLaws.{lead_inside}
use Rattle.text_reader.proofs.FillLaws.{filling_none, filling_stands, filling_word, filling_all}
use Rattle.text_reader.proofs.fill_words.Goals as goal

pub loop-entry-init : goal.loop-entry-init
loop-entry-init c = filling_none _ _ _ _

pub word_at-word-requires : goal.word_at-word-requires
word_at-word-requires c = filling_stands _ _ _ _ c.loop-entry.invariant c.skip_gaps.ensures (omega (arith, c.requires.1, c.loop-entry-test.true)) c.requires.0

pub overflow_add-next : goal.overflow_add-next
overflow_add-next c =
    let t = filling_stands _ _ _ _ c.loop-entry.invariant c.skip_gaps.ensures (omega (arith, c.requires.1, c.loop-entry-test.true)) c.requires.0 in
    record { fits = omega (arith, c.word_at-word.ensures.1, lead_inside c.args.text.now c.skip_gaps.result t.0) }

pub loop-entry-preserved : goal.loop-entry-preserved
loop-entry-preserved c =
    let t = filling_stands _ _ _ _ c.loop-entry.invariant c.skip_gaps.ensures (omega (arith, c.requires.1, c.loop-entry-test.true)) c.requires.0 in
    let fits = subst (SFits w32) (sym c.word_at-word.ensures.0) (abs_fits _ (omega (arith, t.2.in_range))) in
    filling_word _ _ _ _ c.loop-entry.invariant c.skip_gaps.ensures (omega (arith, c.requires.1, c.loop-entry-test.true)) c.requires.0 (to_z-of_z w32 _ fits ∙ c.word_at-word.ensures.0) c.word_at-word.ensures.1

pub returns : goal.returns
returns c =
    let ts = tokens_from c.args.text.now c.args.from in
    let many = words_of_length ts in
    written (omega (arith, many, c.requires.1)) (filling_all _ _ _ _ _ _ _ c.loop-entry.invariant (omega (arith, c.requires.1, c.loop-entry-test.false)))
    ∙ over_all _ _ (omega (arith, many, c.requires.1))
