-- `entries::post_entries` meets its contract: the entries are those of what is said. Assumes nothing.
use Rattle.lists.specs.Buffer.{over}
use Rattle.entries.proofs.AnswerLaws.{left_long}
use Rattle.entries.proofs.post_entries.Goals as goal

pub returns-then-answer-ge-ENTRIES : goal.returns-then-answer-ge-ENTRIES
unfolding over
returns-then-answer-ge-ENTRIES g c = left_long c.if-answer-ge-ENTRIES.true (rw (c.copy_from_slice.ensures.after, c.six_entries-entries.ensures))
