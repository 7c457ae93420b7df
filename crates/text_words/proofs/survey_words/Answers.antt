-- `text_words::survey_words` meets its contract: the words so far are surveyed. Assumes nothing.
use mathlib.Core.Path.{◌≡◌, ◌∙◌, ap}
use mathlib.Core.Bool.{Bool, cond}
use native.Mathlib.Omega.{arith}
use lib.IntN.{nat_abs}
use mir.Syntax.{w32}
use mir.Val.{SFits}
use mir.ValLaws.{to_z-of_z}
use borrow.Author.Rules.{rules}
use Rattle.lists.proofs.SignedLaws.{zero_is, neg_is}
use Rattle.decimal.specs.Digits.{short_width}
use Rattle.cnf.specs.Lent.{word}
use Rattle.dimacs.proofs.NumberLaws.{as_number, number_most}
use Rattle.text_words.proofs.SurveyLaws.{survey_none, survey_more, survey_most}
use Rattle.text_words.proofs.survey_words.Goals as goal

pub loop-word-init : goal.loop-word-init
loop-word-init c = survey_none

pub overflow_add-survey : goal.overflow_add-survey
overflow_add-survey c = record { fits = omega (arith, number_most, survey_most c.loop-word.invariant) }

pub overflow_add-survey-in-loop-word : goal.overflow_add-survey-in-loop-word
overflow_add-survey-in-loop-word c = record { fits = omega (arith, number_most, survey_most c.loop-word.invariant) }

pub overflow_add-survey-in-loop-word-4 : goal.overflow_add-survey-in-loop-word-4
overflow_add-survey-in-loop-word-4 c = record { fits = omega (arith, number_most, c.short_width.ensures, survey_most c.loop-word.invariant) }

pub loop-word-preserved : goal.loop-word-preserved
loop-word-preserved c =
    let fits : SFits w32 (word c.args.words.now c.loop-word.word-index) = search rules in
    let back = to_z-of_z w32 _ fits in
    let size : c.unsigned_abs-variable.result ≡ nat_abs (word c.args.words.now c.loop-word.word-index) = rw back at c.unsigned_abs-variable.ensures.value in
    let one = λ (b : Bool). cond b 1 0 in
    survey_more c.loop-word.invariant
    (c.from.ensures ∙ as_number _ ∙ ap one (zero_is _ fits))
    (c.from-in-loop-word.ensures ∙ as_number _ ∙ rw size)
    (c.short_width.ensures ∙ ap short_width size)
    (c.from-in-loop-word-2.ensures ∙ as_number _ ∙ ap one (neg_is _ back))
