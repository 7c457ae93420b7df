-- `file_judge::judge_end` meets its contract. Assumes nothing.
use native.Mathlib.Omega.{arith}
use Rattle.file_judge.proofs.PartLaws.{end_none}
use Rattle.file_judge.proofs.judge_end.Goals as goal

pub returns : goal.returns
returns c = end_none c.requires (omega arith)
