-- `text_tokens::judge_tokens` meets its contract: before each turn the tokens up to i are good, and counted. Assumes
-- nothing.
use mathlib.Core.Path.{sym, ◌∙◌}
use native.Mathlib.Omega.{arith}
use Rattle.std.proofs.lemmas.Result.{err_from_is_err_and}
use Rattle.dimacs.proofs.TokenLaws.{lead_inside}
use Rattle.token.proofs.JudgeLaws.{token_told}
use Rattle.text_tokens.proofs.CountLaws.{counting_none, counting_gap, counting_word, counting_refused, counting_all}
use Rattle.text_tokens.proofs.judge_tokens.Goals as goal

pub loop-i-init : goal.loop-i-init
loop-i-init c = counting_none _ _ _

pub loop-i-preserved-then-is_gap : goal.loop-i-preserved-then-is_gap
loop-i-preserved-then-is_gap c = counting_gap _ _ _ _ _ _ _ c.loop-i.invariant c.loop-i-test.true (sym c.is_gap.ensures ∙ c.if-is_gap.true)

pub returns-in_err-word : goal.returns-in_err-word
returns-in_err-word c =
    let s = c.args in
    let told = token_told s.variables s.text.now c.loop-i.i _ (sym c.judge_token.ensures ∙ c.in_err-word.was) in
    let p = err_from_is_err_and c.from_residual.result c.from_residual.ensures.1 in
    rw (p.1, p.2) (sym (counting_refused _ _ _ _ _ _ _ c.loop-i.invariant c.loop-i-test.true (sym c.is_gap.ensures ∙ c.if-is_gap.false) _ told))

pub overflow_add-i-else-is_gap : goal.overflow_add-i-else-is_gap
overflow_add-i-else-is_gap c =
    let s = c.args in
    let told = token_told s.variables s.text.now c.loop-i.i _ (sym c.judge_token.ensures ∙ c.in_ok-word.was) in
    record { fits = omega (arith, told.3, lead_inside s.text.now c.loop-i.i c.loop-i-test.true) }

pub loop-i-preserved : goal.loop-i-preserved
loop-i-preserved c =
    let s = c.args in
    let told = token_told s.variables s.text.now c.loop-i.i _ (sym c.judge_token.ensures ∙ c.in_ok-word.was) in
    rw c.from.ensures (counting_word _ _ _ _ _ _ _ c.loop-i.invariant c.loop-i-test.true (sym c.is_gap.ensures ∙ c.if-is_gap.false) _ told)

pub returns : goal.returns
returns c = counting_all _ _ _ _ _ _ _ c.loop-i.invariant c.loop-i-test.false
