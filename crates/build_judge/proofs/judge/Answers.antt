-- `build_judge::judge` meets its contract. Assumes nothing.
use Rattle.std.proofs.Common.{sym, ◌∙◌}
use Rattle.refusal.proofs.SaidLaws.{refused_given, passed_given}
use Rattle.judge.proofs.JudgeLaws.{judge_refuses, judge_goes_on}
use Rattle.build_judge.proofs.judge.Goals as goal

pub returns-in-Err : goal.returns-in-Err
returns-in-Err c = judge_refuses _ _ _ (refused_given _ _ (sym c.in-Err.is ∙ c.sound.ensures))

pub returns-in-Ok : goal.returns-in-Ok
returns-in-Ok c = let f = passed_given _ _ (sym c.in-Ok.is ∙ c.sound.ensures) in judge_goes_on _ _ _ f.0 (rw f.1 at c.judge_sound.ensures)
