-- `edge_writer::emit_each` meets its contract: before turn j, the words of the first j edges stand there. Assumes nothing.
use mathlib.Core.Path.{◌≡◌}
use Prim.Native.Nat.{◌*◌}
use Rattle.lists.specs.Buffer.{Wrote}
use Rattle.lists.specs.Upto.{up_to}
use Rattle.cnf.specs.Clause.{words}
use Rattle.encoding.specs.Emit.{edge_from}
use Rattle.edge_writer.proofs.emit_each.Given as goal

abbrev pub invariant-loop-j : goal.invariant-loop-j
invariant-loop-j l = record { at : l.p ≡ 13 * l.j; wrote : Wrote l.initial.out 0 (up_to l.j (λ j. words (edge_from l.bases l.targets j))) l.out l.p }
