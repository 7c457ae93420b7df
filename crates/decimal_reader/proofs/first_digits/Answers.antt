-- `decimal_reader::first_digits` meets its contract: before each turn the bytes up to there were read. Assumes nothing.
use mathlib.Core.Path.{sym, ◌∙◌}
use native.Mathlib.Omega.{arith}
use Rattle.decimal.proofs.DigitsLaws.{as_digit}
use Rattle.decimal.proofs.RunLaws.{run_stop}
use Rattle.decimal_reader.proofs.ReadLaws.{came_none, came_more, came_all, came_end}
use Rattle.decimal_reader.proofs.first_digits.Goals as goal

pub loop-count-init : goal.loop-count-init
loop-count-init c = came_none _

pub returns-then-not-is_ascii_digit : goal.returns-then-not-is_ascii_digit
returns-then-not-is_ascii_digit c = let l = c.loop-count in came_all _ _ _ l.invariant (run_stop _ _ c.loop-count-test.true (as_digit _ ∙ sym c.is_ascii_digit.ensures.value ∙ c.if-not-is_ascii_digit.true))

pub loop-count-preserved : goal.loop-count-preserved
loop-count-preserved c = let l = c.loop-count in came_more _ _ _ l.invariant _ c.loop-count-test.true (as_digit _ ∙ sym c.is_ascii_digit.ensures.value ∙ c.if-not-is_ascii_digit.false) c.push-value.ensures

pub returns : goal.returns
returns c = came_end _ _ _ c.loop-count.invariant (omega arith) c.loop-count-test.false
