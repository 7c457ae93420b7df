-- `capi::bb_model` meets its contract: what `read_model` said. Assumes nothing.
use Rattle.calls.proofs.CallLaws.{called_short, called_long}
use Rattle.capi.proofs.bb_model.Goals as goal

pub returns-then-answer-lt-ENTRIES : goal.returns-then-answer-lt-ENTRIES
returns-then-answer-lt-ENTRIES c = called_short c.if-answer-lt-ENTRIES.true

pub returns : goal.returns
returns c = called_long c.if-answer-lt-ENTRIES.false c.read_model-read.ensures c.post_entries.ensures
