-- `text_writer::put_text` meets its contract: the words are refused; or their text is written where it fits. Assumes nothing.
use mathlib.Core.Path.{sym, ◌∙◌, ap}
use Prim.Native.Nat.{◌≤◌}
use native.Mathlib.Omega.{arith}
use lib.ListN.{length}
use Rattle.std.proofs.lemmas.Result.{err_from_is_err_and}
use Rattle.lists.proofs.BufferLaws.{then, then_room, first_room, wrote_as, written}
use Rattle.dimacs.specs.Text.{body, header_line, text_of}
use Rattle.text_words.proofs.MeasureLaws.{measure_bad, measure_good}
use Rattle.text_writer.proofs.PutLaws.{text_parts}
use Rattle.text_writer.proofs.AnswerLaws.{write_refuses, write_short, write_done}
use Rattle.text_writer.proofs.put_text.Goals as goal

pub returns-in_err-measure : goal.returns-in_err-measure
returns-in_err-measure c =
    let p = err_from_is_err_and c.from_residual.result c.from_residual.ensures.1 in
    rw (p.1, p.2) (write_refuses _ _ _ (measure_bad _ _ (sym c.measure_words.ensures ∙ c.in_err-measure.was)))

pub returns-then-out-need : goal.returns-then-out-need
returns-then-out-need c = let m = measure_good c.args.variables c.args.words.now (sym c.measure_words.ensures ∙ c.in_ok-measure.was) in write_short _ _ _ m.0 m.2 c.if-out-need.true

pub put_header-from-requires : goal.put_header-from-requires
put_header-from-requires c =
    let s = c.args in
    let m = measure_good s.variables s.words.now (sym c.measure_words.ensures ∙ c.in_ok-measure.was) in
    let parts = text_parts s.variables s.words.now m.1 in
    omega (arith, first_room (header_line s.variables c.in_ok-measure.measure.clauses) (body s.words.now) 0 (length s.out.now) (omega (arith, ap length parts, m.2)))

pub put_words-end-requires : goal.put_words-end-requires
put_words-end-requires c =
    let s = c.args in
    let m = measure_good s.variables s.words.now (sym c.measure_words.ensures ∙ c.in_ok-measure.was) in
    let parts = text_parts s.variables s.words.now m.1 in
    then_room c.put_header-from.ensures (body s.words.now) (omega (arith, ap length parts, m.2))

pub returns : goal.returns
returns c =
    let s = c.args in
    let m = measure_good s.variables s.words.now (sym c.measure_words.ensures ∙ c.in_ok-measure.was) in
    let w = wrote_as (then c.put_header-from.ensures c.put_words-end.ensures) (text_parts s.variables s.words.now m.1) in
    let fits : length (text_of s.variables s.words.now) ≤ length s.out.now = omega (arith, m.2) in
    write_done _ _ _ m.0 (omega (arith, w.next)) (omega (arith, w.next)) (written fits w)
