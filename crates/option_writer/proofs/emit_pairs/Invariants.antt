-- `option_writer::emit_pairs` meets its contract: before turn i, the first i rows stand there. Assumes nothing.
use mathlib.Core.List.{List}
use Prim.Native.Nat.{ℕ, ◌-◌}
use Rattle.lists.specs.Buffer.{Wrote}
use Rattle.lists.specs.Upto.{up_to}
use Rattle.cnf.specs.Clause.{Clause, words}
use Rattle.clauses.specs.Clauses.{pairs_after}
use Rattle.option_writer.proofs.emit_pairs.Given as goal

abbrev pub block : ℕ → ℕ → ℕ → List Clause
block b k i = pairs_after b i (k - 1 - i)

abbrev pub invariant-loop-i : goal.invariant-loop-i
invariant-loop-i l = Wrote l.initial.out l.at (up_to l.i (λ i. words (block l.before l.k i))) l.out l.p
