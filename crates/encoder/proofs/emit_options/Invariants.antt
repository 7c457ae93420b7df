-- `encoder::emit_options` meets its contract: before each turn the options gone through stand there. Assumes nothing.
use Rattle.std.specs.Prelude.{◌≡◌, []}
use Rattle.lists.specs.Buffer.{Wrote}
use Rattle.lists.specs.Upto.{up_to}
use Rattle.cnf.specs.Clause.{words}
use Rattle.diagram.specs.Lent.{lent}
use Rattle.diagram.specs.Numbers.{first_value}
use Rattle.clauses.specs.Clauses.{edition1, option_clauses}
use Rattle.encoder.proofs.emit_options.Given as goal

abbrev pub invariant-loop-k : goal.invariant-loop-k
invariant-loop-k l = (l.before ≡ first_value (lent l.domains [] []) l.k-index) × Wrote l.initial.out l.at (up_to l.k-index (λ i. words (option_clauses edition1 (lent l.domains [] []) i))) l.out l.p
