-- `decimal_positive::few_digits` meets its contract: before each turn the bytes up to there were read. Assumes nothing.
use Rattle.decimal_positive.proofs.FewLaws.{Few}
use Rattle.decimal_positive.proofs.few_digits.Given as goal

abbrev pub invariant-loop-count : goal.invariant-loop-count
invariant-loop-count l = Few l.front l.value l.count
