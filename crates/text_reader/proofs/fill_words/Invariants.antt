-- `text_reader::fill_words` meets its contract: before each turn the words so far stand in the list. Assumes nothing.
use Rattle.text_reader.proofs.FillLaws.{Filling}
use Rattle.text_reader.proofs.fill_words.Given as goal

abbrev pub invariant-loop-entry : goal.invariant-loop-entry
invariant-loop-entry l = Filling 1000000 l.text l.from l.initial.entry-items l.next l.entry-index l.entry-items
