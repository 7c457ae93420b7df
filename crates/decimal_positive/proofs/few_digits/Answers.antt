-- `decimal_positive::few_digits` meets its contract: before each turn the bytes up to there were read. Assumes nothing.
use mathlib.Core.Path.{sym, ◌∙◌}
use Prim.Native.Nat.{◌<◌}
use lib.ListN.{length}
use native.Mathlib.Omega.{arith}
use Rattle.decimal.proofs.DigitsLaws.{as_digit}
use Rattle.decimal.proofs.RunLaws.{run_stop}
use Rattle.decimal_positive.proofs.FewLaws.{few_none, few_small, few_more, few_all}
use Rattle.decimal_positive.proofs.few_digits.Goals as goal

pub loop-count-init : goal.loop-count-init
loop-count-init c = few_none _

pub returns-then-not-is_ascii_digit : goal.returns-then-not-is_ascii_digit
returns-then-not-is_ascii_digit c = let w = few_all _ _ _ c.loop-count.invariant (let l : c.loop-count.count < length c.args.front.now = omega arith in run_stop _ _ l (as_digit _ ∙ sym c.is_ascii_digit.ensures.value ∙ c.if-not-is_ascii_digit.true)) in (w.0, w.1, c.loop-count-test.true)

pub overflow_mul-value : goal.overflow_mul-value
overflow_mul-value c = record { fits = omega (arith, few_small c.loop-count.invariant) }

pub overflow_add-value : goal.overflow_add-value
overflow_add-value c = record { fits = omega (arith, few_small c.loop-count.invariant) }

pub loop-count-preserved : goal.loop-count-preserved
loop-count-preserved c = rw c.from.ensures (few_more _ _ _ c.loop-count.invariant c.loop-count-test.true (omega arith) (as_digit _ ∙ sym c.is_ascii_digit.ensures.value ∙ c.if-not-is_ascii_digit.false))
