-- `capi::bb_judge` meets its contract: what `judge` said. Assumes nothing.
use mathlib.Core.Path.{sym}
use Rattle.entries.proofs.AnswerLaws.{left_short, answered_as}
use Rattle.capi.proofs.bb_judge.Goals as goal

pub returns-then-answer-lt-ENTRIES : goal.returns-then-answer-lt-ENTRIES
returns-then-answer-lt-ENTRIES c = left_short c.if-answer-lt-ENTRIES.true

pub returns : goal.returns
returns c = answered_as (sym c.judge-judged.ensures.says) c.post_entries.ensures
