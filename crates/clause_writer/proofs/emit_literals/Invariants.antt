-- `clause_writer::emit_literals` meets its contract: nothing, or, before turn j, the first j literals. Assumes nothing.
use Prim.Native.Nat.{◌+◌}
use Rattle.lists.specs.Buffer.{Wrote}
use Rattle.clauses.specs.Clauses.{one_of}
use Rattle.clause_writer.proofs.emit_literals.Given as goal

abbrev pub invariant-loop-j : goal.invariant-loop-j
invariant-loop-j l = Wrote l.initial.word-items 0 (one_of (λ j. l.first + j) l.j) l.word-items l.j
