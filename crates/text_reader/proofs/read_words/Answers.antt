-- `text_reader::read_words` meets its contract: the header is refused, or the tokens after it are read. Assumes nothing.
use mathlib.Core.Path.{sym, ◌∙◌}
use Rattle.std.proofs.lemmas.Result.{err_from_is_err_and}
use Rattle.text_reader.proofs.AnswerLaws.{read_no_header, read_too_many, read_on}
use Rattle.text_reader.proofs.read_words.Goals as goal

pub returns-in_err-header : goal.returns-in_err-header
returns-in_err-header c =
    let p = err_from_is_err_and c.from_residual.result c.from_residual.ensures.1 in
    rw (p.1, p.2) (read_no_header _ _ (sym c.read_header.ensures ∙ c.in_err-header.was))

pub returns-then-too_many : goal.returns-then-too_many
returns-then-too_many c = read_too_many _ _ (sym c.read_header.ensures ∙ c.in_ok-header.was) (sym c.too_many.ensures ∙ c.if-too_many.true)

pub returns : goal.returns
returns c = read_on _ _ (sym c.read_header.ensures ∙ c.in_ok-header.was) (sym c.too_many.ensures ∙ c.if-too_many.false) c.read_tokens.ensures
