-- `edge_writer::emit_each` meets its contract: before turn j, the words of the first j edges stand there. Assumes nothing.
use native.Mathlib.Omega.{arith}
use mathlib.Core.Path.{◌∙◌}
use Prim.Native.Nat.{◌+◌, ◌%◌}
use lib.ListN.{get_or}
use Rattle.lists.proofs.BufferLaws.{begin, turn, finish}
use Rattle.cnf.specs.Clause.{words}
use Rattle.encoding.specs.Emit.{edge_from}
use Rattle.encoding.proofs.ClauseLaws.{within_part, put_words, each_wrote, edge_length}
use Rattle.edge_writer.proofs.emit_each.Goals as goal

pub loop-j-init : goal.loop-j-init
loop-j-init c = record { at = omega arith; wrote = begin _ }

pub overflow_add-p : goal.overflow_add-p
overflow_add-p c = let l = c.loop-j in omega (arith, within_part l.out l.p 0 _ (omega arith) c.emit_words-p.ensures)

pub loop-j-preserved : goal.loop-j-preserved
loop-j-preserved c =
    let l = c.loop-j in
    let b = c.args.bases in
    let ts = c.args.targets.now in
    let n = edge_length (b.edge + l.j) b.node (b.reference + get_or ts l.j 0 % 1048576) (b.value + l.j) in
    let w = put_words l.out l.p {ws = words (edge_from b ts l.j)} (c.edge_words-words.ensures ∙ cc) (omega arith) c.emit_words-p.ensures in
    record { at = omega arith; wrote = turn (λ j. words (edge_from b ts j)) l.invariant.wrote w }

pub returns : goal.returns
returns c = each_wrote _ _ (finish (λ j. words (edge_from c.args.bases c.args.targets.now j)) c.loop-j.invariant.wrote (omega arith) (omega arith))
