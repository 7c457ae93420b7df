-- `text_writer::put_words` meets its contract: before each turn the text of the words so far stands there. Assumes nothing.
use Rattle.lists.specs.Upto.{up_to}
use Rattle.lists.specs.Buffer.{Wrote}
use Rattle.cnf.specs.Lent.{word}
use Rattle.dimacs.specs.Text.{word_text}
use Rattle.text_writer.proofs.put_words.Given as goal

abbrev pub invariant-loop-word : goal.invariant-loop-word
invariant-loop-word l = Wrote l.initial.out l.from (up_to l.word-index (λ k. word_text (word l.words k))) l.out l.at
