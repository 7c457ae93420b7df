-- `option_writer::emit_pairs_after` meets its contract: before turn t, the first t pairs stand there. Assumes nothing.
use mathlib.Core.List.{List, [], ◌∷◌}
use Prim.Native.Nat.{ℕ, ◌+◌}
use Rattle.lists.specs.Buffer.{Wrote}
use Rattle.lists.specs.Upto.{up_to}
use Rattle.cnf.specs.Clause.{Clause, words}
use Rattle.clauses.specs.Clauses.{pair}
use Rattle.option_writer.proofs.emit_pairs_after.Given as goal

abbrev pub block : ℕ → ℕ → ℕ → List Clause
block b i t = pair b i (i + 1 + t) ∷ []

abbrev pub invariant-loop-t : goal.invariant-loop-t
invariant-loop-t l = Wrote l.initial.out l.at (up_to l.t (λ t. words (block l.before l.i t))) l.out l.p
