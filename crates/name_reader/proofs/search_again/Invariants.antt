-- `name_reader::search_again` meets its contract: before turn k no literal before `from + k` names a value variable again, and
-- the marks are what those literals say. Assumes nothing.
use Prim.Native.Nat.{◌+◌}
use Rattle.naming.specs.Marks.{NotedTo}
use Rattle.name_reader.proofs.search_again.Given as goal

abbrev pub invariant-loop-k : goal.invariant-loop-k
invariant-loop-k l = NotedTo l.values l.literals (l.from + l.k) l.marks
