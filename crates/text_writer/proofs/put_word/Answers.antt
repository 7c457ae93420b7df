-- `text_writer::put_word` meets its contract: a 0 and a line feed; or the sign, the digits and a space. Assumes nothing.
use mathlib.Core.Path.{sym, ap}
use native.Mathlib.Omega.{arith}
use lib.ListN.{length, length-set}
use Rattle.lists.proofs.BufferLaws.{kept, put, then, wrote_as, wrote_next}
use Rattle.dimacs.proofs.WriterLaws.{word_length}
use Rattle.text_writer.proofs.PutLaws.{zero_bytes, word_done}
use Rattle.text_writer.proofs.put_word.Goals as goal

pub bounds-out-at : goal.bounds-out-at
bounds-out-at c = omega (arith, c.requires, ap length (zero_bytes _ c.ranges.word c.if-word-eq0.true))

pub bounds-out-at-then-word-eq0 : goal.bounds-out-at-then-word-eq0
bounds-out-at-then-word-eq0 c = simp length-set (omega (arith, c.requires, ap length (zero_bytes _ c.ranges.word c.if-word-eq0.true)))

pub returns-then-word-eq0 : goal.returns-then-word-eq0
returns-then-word-eq0 c = wrote_next (wrote_as (then (put _ _ _) (put _ _ _)) (sym (zero_bytes _ c.ranges.word c.if-word-eq0.true))) (omega arith)

pub put_sign-from-requires : goal.put_sign-from-requires
put_sign-from-requires c = omega (arith, c.requires, word_length c.args.word)

pub overflow_add-end : goal.overflow_add-end
overflow_add-end c = let e = word_done _ c.ranges.word c.if-word-eq0.false c.requires c.put_sign-from.ensures.0 c.put_sign-from.ensures.1 c.variable_of.ensures c.write_often.ensures in record { fits = omega arith }

pub bounds-out-end : goal.bounds-out-end
bounds-out-end c = let e = word_done _ c.ranges.word c.if-word-eq0.false c.requires c.put_sign-from.ensures.0 c.put_sign-from.ensures.1 c.variable_of.ensures c.write_often.ensures in e.inside

pub overflow_add-result-2 : goal.overflow_add-result-2
overflow_add-result-2 c = let e = word_done _ c.ranges.word c.if-word-eq0.false c.requires c.put_sign-from.ensures.0 c.put_sign-from.ensures.1 c.variable_of.ensures c.write_often.ensures in record { fits = omega arith }

pub shape_of-out : goal.shape_of-out
shape_of-out c = let e = word_done _ c.ranges.word c.if-word-eq0.false c.requires c.put_sign-from.ensures.0 c.put_sign-from.ensures.1 c.variable_of.ensures c.write_often.ensures in kept e.wrote

pub returns : goal.returns
returns c = let e = word_done _ c.ranges.word c.if-word-eq0.false c.requires c.put_sign-from.ensures.0 c.put_sign-from.ensures.1 c.variable_of.ensures c.write_often.ensures in e.wrote
