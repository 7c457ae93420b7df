-- `decimal_reader::first_digits` meets its contract: before each turn the bytes up to there were read. Assumes nothing.
use Rattle.decimal_reader.proofs.ReadLaws.{Came}
use Rattle.decimal_reader.proofs.first_digits.Given as goal

abbrev pub invariant-loop-count : goal.invariant-loop-count
invariant-loop-count l = Came l.text l.value l.count
