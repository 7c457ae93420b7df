-- `file_judge::judge_part` meets its contract: the line that counts, and the lines that it counts. Assumes nothing.
use native.Mathlib.Omega.{arith}
use Rattle.std.proofs.lemmas.Result.{err_from_is_err_and}
use Rattle.file_judge.proofs.PartLaws.{line_found, line_missed, stands_next, part_misformed, part_large, part_lines}
use Rattle.file_judge.proofs.judge_part.Goals as goal

pub returns-in_err-line : goal.returns-in_err-line
returns-in_err-line c =
    let p = err_from_is_err_and c.from_residual.result c.from_residual.ensures.1 in
    rw (p.1, p.2) (part_misformed c.args.text.now c.args.part.key.now c.args.part.later.now c.args.from c.args.most (line_missed _ _ c.requires.0 _ c.in_err-line.ensures))

pub overflow_add-result : goal.overflow_add-result
overflow_add-result c = let s = c.requires.0 in record { fits = omega (arith, s.few, s.inside) }

pub returns-then-most-count : goal.returns-then-most-count
returns-then-most-count c = part_large c.args.text.now c.args.part.key.now c.args.part.later.now c.args.from c.args.most (line_found _ _ c.requires.1 c.requires.0 _ c.in_ok-line.ensures) c.if-most-count.true

pub overflow_add-first : goal.overflow_add-first
overflow_add-first c = let s = c.requires.0 in record { fits = omega (arith, s.few, s.inside) }

pub judge_lines-requires : goal.judge_lines-requires
judge_lines-requires c = (stands_next c.requires.0 (line_found _ _ c.requires.1 c.requires.0 _ c.in_ok-line.ensures), c.requires.2)

pub returns : goal.returns
returns c = part_lines c.args.text.now c.args.part.key.now c.args.part.later.now c.args.from c.args.most (line_found _ _ c.requires.1 c.requires.0 _ c.in_ok-line.ensures) c.if-most-count.false _ c.judge_lines.ensures
