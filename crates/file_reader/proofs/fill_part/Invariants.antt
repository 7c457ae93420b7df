-- `file_reader::fill_part` meets its contract: before each turn the values of the lines passed are stored. Assumes nothing.
use Rattle.file_reader.proofs.FillLaws.{Filling}
use Rattle.file_reader.proofs.fill_part.Given as goal

abbrev pub invariant-loop-value : goal.invariant-loop-value
invariant-loop-value l = Filling l.text l.fn.part.later.now l.initial.next l.initial.value-items l.value-index l.next l.value-items
