-- `capi::bb_check` meets its contract: what `check` said, without the counts. Assumes nothing.
use mathlib.Core.Path.{sym}
use Rattle.entries.proofs.AnswerLaws.{left_short, answered_as}
use Rattle.calls.proofs.CallLaws.{check_said_lem}
use Rattle.capi.proofs.bb_check.Goals as goal

pub returns-then-answer-lt-ENTRIES : goal.returns-then-answer-lt-ENTRIES
returns-then-answer-lt-ENTRIES c = left_short c.if-answer-lt-ENTRIES.true

pub returns : goal.returns
returns c = answered_as (sym (check_said_lem c.check-checked.ensures)) c.post_entries.ensures
