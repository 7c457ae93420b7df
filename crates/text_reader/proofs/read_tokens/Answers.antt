-- `text_reader::read_tokens` meets its contract: the first bad token, or what is said of good ones. Assumes nothing.
use mathlib.Core.Path.{sym, ◌∙◌}
use Rattle.std.proofs.lemmas.List.{length-take-le}
use Rattle.std.proofs.lemmas.Result.{err_from_is_err_and}
use Rattle.dimacs.proofs.ReadTable.{tokens_wider}
use Rattle.text_tokens.proofs.PassLaws.{pass_bad, pass_good}
use Rattle.text_reader.proofs.AnswerLaws.{read_bad_token, read_bad_end, ends_fit, read_done}
use Rattle.text_reader.proofs.read_tokens.Goals as goal

pub returns-in_err-pass : goal.returns-in_err-pass
returns-in_err-pass c =
    let p = err_from_is_err_and c.from_residual.result c.from_residual.ensures.1 in
    rw (p.1, p.2) (read_bad_token _ _ _ _ _ (pass_bad _ _ (sym c.judge_tokens.ensures ∙ c.in_err-pass.was)))

pub returns-in_err-check_ends : goal.returns-in_err-check_ends
returns-in_err-check_ends c =
    let g = pass_good _ _ (sym c.judge_tokens.ensures ∙ c.in_ok-pass.was) in
    let p = err_from_is_err_and c.from_residual-in_err-check_ends.result c.from_residual-in_err-check_ends.ensures.1 in
    rw (p.1, p.2) (read_bad_end _ _ _ _ _ g c.check_ends.ensures c.in_err-check_ends.was)

pub slice_bounds-fill_words-end : goal.slice_bounds-fill_words-end
slice_bounds-fill_words-end c = ends_fit _ _ _ _ _ (pass_good _ _ (sym c.judge_tokens.ensures ∙ c.in_ok-pass.was)) c.check_ends.ensures c.in_ok-check_ends.was

pub slice_bounds-fill_words-end-2 : goal.slice_bounds-fill_words-end-2
slice_bounds-fill_words-end-2 c =
    let fit = ends_fit _ _ _ _ c.args.out.now (pass_good _ _ (sym c.judge_tokens.ensures ∙ c.in_ok-pass.was)) c.check_ends.ensures c.in_ok-check_ends.was in
    sym (length-take-le _ c.args.out.now fit)

pub fill_words-requires : goal.fill_words-requires
fill_words-requires c =
    let g = pass_good _ _ (sym c.judge_tokens.ensures ∙ c.in_ok-pass.was) in
    let fit = ends_fit _ _ _ _ c.args.out.now g c.check_ends.ensures c.in_ok-check_ends.was in
    (tokens_wider _ 1000000 _ c.requires g.0, sym g.1 ∙ sym (length-take-le _ c.args.out.now fit))

pub returns : goal.returns
returns c = read_done _ _ _ _ _ (pass_good _ _ (sym c.judge_tokens.ensures ∙ c.in_ok-pass.was)) c.check_ends.ensures c.in_ok-check_ends.was c.fill_words.ensures
