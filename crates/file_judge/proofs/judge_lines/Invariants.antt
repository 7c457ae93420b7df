-- `file_judge::judge_lines` meets its contract: before each turn the lines passed have the form. Assumes nothing.
use Rattle.file_judge.proofs.PartLaws.{Walking}
use Rattle.file_judge.proofs.judge_lines.Given as goal

abbrev pub invariant-loop : goal.invariant-loop
invariant-loop l = Walking l.text l.key l.initial.here l.here l.counter
