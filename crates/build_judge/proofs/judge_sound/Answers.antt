-- `build_judge::judge_sound` meets its contract: the rules of builds read the domains alone. Assumes nothing.
use Rattle.std.proofs.Common.{sym, ◌∙◌, ap}
use Rattle.refusal.specs.Rules.{chain}
use Rattle.judge.specs.Promise.{allows_test}
use Rattle.judge.proofs.JudgeLaws.{same_build_rules, passed_fits, build_refused, build_walked}
use Rattle.build_judge.proofs.judge_sound.Goals as goal

pub walks_to_true-requires : goal.walks_to_true-requires
walks_to_true-requires c = rw (← c.diagram.view_is) (passed_fits _ _ (sym (c.check_build.ensures ∙ ap chain (same_build_rules _ _ _ _)) ∙ c.in-Ok.is))

pub returns-in-Err : goal.returns-in-Err
returns-in-Err c = rw (← c.diagram.view_is) (build_refused _ _ _ (sym (c.check_build.ensures ∙ ap chain (same_build_rules _ _ _ _)) ∙ c.in-Err.is))

pub returns-in-Ok : goal.returns-in-Ok
returns-in-Ok c = rw (← c.diagram.view_is) (build_walked _ _ _ _ (sym (c.check_build.ensures ∙ ap chain (same_build_rules _ _ _ _)) ∙ c.in-Ok.is) (c.walks_to_true.ensures ∙ ap (λ d. allows_test d c.args.build.now) (sym c.diagram.view_is)) c.answer_of.ensures)
