-- `text_words::measure_words` meets its contract: the words are refused, or have passed and their text is measured. Assumes
-- nothing.
use mathlib.Core.Path.{sym, ◌∙◌}
use native.Mathlib.Omega.{arith}
use Rattle.std.proofs.lemmas.Result.{err_from_is_err_and}
use Rattle.cnf.proofs.LentLaws.{counted, words_well}
use Rattle.text_words.proofs.MeasureLaws.{measure_refuses, measure_gives}
use Rattle.text_words.proofs.SurveyLaws.{survey_zeros, survey_range, survey_size, body_most, text_length}
use Rattle.text_words.proofs.measure_words.Goals as goal

pub returns-in_err-check_counted : goal.returns-in_err-check_counted
returns-in_err-check_counted c =
    let k = c.survey_words-survey in
    let said = c.check_counted.ensures ∙ counted c.args.variables c.args.words.now _ _ (survey_zeros k.ensures) (survey_range k.ensures) in
    let p = err_from_is_err_and c.from_residual.result c.from_residual.ensures.1 in
    rw (p.1, p.2) (measure_refuses _ _ (sym said ∙ c.in_err-check_counted.was))

pub overflow_add-result-3 : goal.overflow_add-result-3
overflow_add-result-3 c =
    let k = c.survey_words-survey.ensures in
    let said = c.check_counted.ensures ∙ counted c.args.variables c.args.words.now _ _ (survey_zeros k) (survey_range k) in
    let well = words_well _ _ (sym said ∙ c.in_ok-check_counted.was) in
    record { fits = omega (arith, survey_size well k, body_most well, c.short_width.ensures, c.short_width-2.ensures) }

pub returns : goal.returns
returns c =
    let k = c.survey_words-survey.ensures in
    let said = c.check_counted.ensures ∙ counted c.args.variables c.args.words.now _ _ (survey_zeros k) (survey_range k) in
    let passes = sym said ∙ c.in_ok-check_counted.was in
    let well = words_well _ _ passes in
    measure_gives _ _ passes (survey_zeros k) (text_length well (survey_zeros k) c.short_width.ensures c.short_width-2.ensures (survey_size well k))
