-- `option_writer::emit_pairs` meets its contract: before turn i, the first i rows stand there. Assumes nothing.
use native.Mathlib.Omega.{arith}
use Rattle.lists.proofs.BufferLaws.{kept, begin, turn, room, finish}
use Rattle.cnf.specs.Clause.{words}
use Rattle.encoding.proofs.ClauseLaws.{each_room, each_wrote}
use Rattle.option_writer.proofs.emit_pairs.Invariants.{block}
use Rattle.option_writer.proofs.emit_pairs.Goals as goal

pub loop-i-init : goal.loop-i-init
loop-i-init c = begin _

pub emit_pairs_after-p-requires : goal.emit_pairs_after-p-requires
emit_pairs_after-p-requires c =
    let a = c.args in
    record { n_in_bounds = room (λ i. words (block a.before a.k i)) c.loop-i.invariant (each_room a.k (block a.before a.k) a.at _ c.requires.k_in_bounds) c.loop-i-test.true; n_bound = omega arith }

pub loop-i-preserved : goal.loop-i-preserved
loop-i-preserved c = let a = c.args in turn (λ i. words (block a.before a.k i)) c.loop-i.invariant c.emit_pairs_after-p.ensures

pub shape_of-out : goal.shape_of-out
shape_of-out c = kept c.loop-i.invariant

pub returns : goal.returns
returns c = let a = c.args in each_wrote a.k (block a.before a.k) (finish (λ i. words (block a.before a.k i)) c.loop-i.invariant (omega arith) (omega arith))
