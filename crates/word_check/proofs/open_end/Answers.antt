-- `word_check::open_end` meets its contract: the last word tells. Assumes nothing.
use Rattle.std.proofs.Common.{rules, sym, ◌∙◌}
use Rattle.word_check.proofs.LastLaws.{open_by_last}
use Rattle.word_check.proofs.open_end.Goals as goal

pub returns : goal.returns
returns c = c.then_some.ensures ∙ open_by_last _ _ _ (search rules) (sym (rw c.in_ok-last.was at c.last.ensures.value))
