-- `text_words::survey_words` meets its contract: the words so far are surveyed. Assumes nothing.
use Rattle.text_words.specs.Survey.{Surveyed}
use Rattle.text_words.proofs.survey_words.Given as goal

abbrev pub invariant-loop-word : goal.invariant-loop-word
invariant-loop-word l = Surveyed l.variables l.words l.word-index l.survey.zeros l.survey.beyond l.survey.size
