-- `edge_writer::emit_edges` meets its contract: nothing, or each edge's words. Assumes nothing.
use native.Mathlib.Omega.{arith}
use mathlib.Core.Path.{sym}
use borrow.Author.Tests.{leb-true, leb-false}
use Rattle.encoding.proofs.ClauseLaws.{edges_length, too_many, too_short, emits}
use Rattle.edge_writer.proofs.emit_edges.Goals as goal

pub returns-then-not-are_few : goal.returns-then-not-are_few
returns-then-not-are_few c = too_many _ _ _ (leb-false _ _ (sym c.if-not-are_few.ensures))

pub returns-then-out-targets : goal.returns-then-out-targets
returns-then-out-targets c = let a = c.args in too_short _ _ _ (omega (arith, edges_length a.bases a.targets.now))

pub returns : goal.returns
returns c = let a = c.args in emits _ _ _ (leb-true _ _ (sym c.if-not-are_few.ensures)) (omega (arith, edges_length a.bases a.targets.now)) c.emit_each.ensures
