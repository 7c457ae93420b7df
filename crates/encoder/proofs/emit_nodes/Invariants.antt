-- `encoder::emit_nodes` meets its contract: before turn v the first v nodes stand there, i is an option not after that of
-- node v, and edge is the first edge of node v. Assumes nothing.
use Rattle.std.specs.Prelude.{◌≡◌, [], ◌≤◌, ◌<◌, length}
use Rattle.lists.specs.Buffer.{Wrote}
use Rattle.lists.specs.Upto.{up_to}
use Rattle.cnf.specs.Clause.{words}
use Rattle.diagram.specs.Lent.{lent, lent_by, asked, first_edge}
use Rattle.diagram.specs.Numbers.{first_value}
use Rattle.clauses.specs.Clauses.{node_clauses}
use Rattle.encoder.proofs.emit_nodes.Given as goal

abbrev pub invariant-loop-v : goal.invariant-loop-v
invariant-loop-v l = (l.v < length l.lists.layers.now → l.i ≤ asked (lent_by l.lists) l.v) × (l.before ≡ first_value (lent l.lists.domains.now [] []) l.i) × (l.edge ≡ first_edge (lent_by l.lists) l.v)
    × Wrote l.initial.out l.at (up_to l.v (λ v. words (node_clauses (lent_by l.lists) v))) l.out l.p
