-- `node_writer::emit_node` meets its contract: nothing, or all clauses of the node. Assumes nothing.
use mathlib.Core.Path.{◌≡◌, sym, ap}
use native.Mathlib.Omega.{arith}
use Prim.Native.Nat.{ℕ, ◌+◌}
use borrow.Author.Tests.{leb-true, leb-false}
use Rattle.lists.proofs.BufferLaws.{wrote_as}
use Rattle.cnf.specs.Clause.{words}
use Rattle.diagram.specs.Numbers.{reference_number}
use Rattle.encoding.specs.declared.Bases.{Bases}
use Rattle.encoding.specs.Emit.{node_from, lent_bases}
use Rattle.encoding.proofs.ClauseLaws.{node_length, too_many, too_short, emits}
use Rattle.node_writer.proofs.emit_node.Goals as goal

bases_same : {n e x r n' e' x' r' : ℕ} → n ≡ n' → e ≡ e' → x ≡ x' → r ≡ r' → ◌≡◌ {A = Bases} (record { node = n; edge = e; value = x; reference = r }) (record { node = n'; edge = e'; value = x'; reference = r' })
bases_same p q s t = rw (p, q, s, t)

pub returns-then-not-are_few : goal.returns-then-not-are_few
returns-then-not-are_few c = let h = leb-false _ _ (sym c.if-not-are_few.ensures) in too_many _ _ _ (omega arith)

pub returns-then-out-targets : goal.returns-then-out-targets
returns-then-out-targets c = let a = c.args in too_short _ _ _ (omega (arith, node_length (lent_bases a.counts.values a.counts.nodes a.before a.edge a.v) a.targets.now))

pub emit_t1_to_t5-requires-clause-targets_in_bounds : goal.emit_t1_to_t5-requires-clause-targets_in_bounds
emit_t1_to_t5-requires-clause-targets_in_bounds c = omega (arith, node_length)

pub returns : goal.returns
returns c =
    let a = c.args in
    let n = node_length (lent_bases a.counts.values a.counts.nodes a.before a.edge a.v) a.targets.now in
    let e : c.reference_variable.result + c.from.result ≡ reference_number a.counts.values (a.v + 2) = omega arith in
    let w = bases_same e c.edge_variable.ensures c.value_variable.ensures c.reference_variable-2.ensures in
    let h = leb-true _ _ (sym c.if-not-are_few.ensures) in
    emits _ _ _ (omega arith) (omega arith) (wrote_as c.emit_t1_to_t5.ensures (ap (λ (b : Bases). words (node_from b a.targets.now)) w))
