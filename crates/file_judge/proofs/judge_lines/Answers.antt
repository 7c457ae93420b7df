-- `file_judge::judge_lines` meets its contract: before each turn the lines passed have the form. Assumes nothing.
use native.Mathlib.Omega.{arith}
use Rattle.std.proofs.lemmas.Result.{err_from_is_err_and}
use Rattle.file_judge.proofs.PartLaws.{line_found, line_missed, walk_none, walk_more, walk_stops, walk_all}
use Rattle.file_judge.proofs.judge_lines.Goals as goal

pub loop-init : goal.loop-init
loop-init c = walk_none c.requires.0

pub read_line-requires : goal.read_line-requires
read_line-requires c = c.loop.invariant.stands

pub returns-in_err-line : goal.returns-in_err-line
returns-in_err-line c =
    let p = err_from_is_err_and c.from_residual.result c.from_residual.ensures.1 in
    rw (p.1, p.2) (walk_stops c.loop.invariant _ c.loop-test.true (line_missed _ _ c.loop.invariant.stands _ c.in_err-line.ensures))

pub overflow_add-here : goal.overflow_add-here
overflow_add-here c = let s = c.loop.invariant.stands in record { fits = omega (arith, s.few, s.inside) }

pub loop-preserved : goal.loop-preserved
loop-preserved c = walk_more c.loop.invariant (line_found _ _ c.requires.1 c.loop.invariant.stands _ c.in_ok-line.ensures)

pub returns : goal.returns
returns c = walk_all c.loop.invariant _ (omega arith) c.loop-test.false
