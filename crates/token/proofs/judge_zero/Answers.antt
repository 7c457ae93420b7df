-- `token::judge_zero` meets its contract: `0` alone, or any digits that it leads. Assumes nothing.
use mathlib.Core.Path.{sym, ◌∙◌, ap}
use native.Mathlib.Omega.{arith}
use Rattle.decimal.proofs.ReadLaws.{ok_read}
use Rattle.token.specs.Judged.{read_judged}
use Rattle.token.proofs.JudgeLaws.{nought_judged, zero_judged}
use Rattle.token.proofs.judge_zero.Goals as goal

pub returns-then-is_ended : goal.returns-then-is_ended
returns-then-is_ended c = sym (nought_judged c.args.text.now c.args.at c.args.variables (omega arith) c.requires.0 c.requires.1 (sym c.is_ended.ensures ∙ c.if-is_ended.true))

pub returns : goal.returns
returns c = c.judge_read.ensures ∙ ap (read_judged c.args.variables c.args.text.now c.args.at) (ok_read c.args.text.now c.args.at c.read.ensures c.ok.ensures.value) ∙ sym (zero_judged c.args.text.now c.args.at c.args.variables (omega arith) c.requires.0 c.requires.1)
