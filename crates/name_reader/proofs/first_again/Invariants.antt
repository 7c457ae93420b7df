-- `name_reader::first_again` meets its contract: before the block at `from` no literal before it names a value variable again,
-- and the marks are what those literals say. Assumes nothing.
use mathlib.Core.Path.{◌≡◌}
use Prim.Native.Nat.{◌≤◌}
use lib.ListN.{length, drop}
use Rattle.std.specs.Slice.Iter.{chunks_rest, chunks_size}
use Rattle.naming.specs.Marks.{NotedTo}
use Rattle.name_reader.proofs.first_again.Given as goal

abbrev pub invariant-loop-block : goal.invariant-loop-block
invariant-loop-block l = (l.from ≤ length l.literals) × (chunks_rest l.block-iterator ≡ drop l.from l.literals) × (chunks_size l.block-iterator ≡ 64) × NotedTo l.values l.literals l.from l.marks
