-- `model_reader::judge_build` meets its contract: of a sound diagram and a build that fits it `judge` refuses nothing. Assumes
-- nothing.
use mathlib.Core.Path.{◌≡◌, refl, sym, ◌∙◌}
use mathlib.Core.Bool.{Bool, true, false, cond}
use Rattle.refusal.specs.Rules.{chain}
use Rattle.refusal.specs.declared.Refusal.{Refusal}
use Rattle.judge.specs.declared.Judged.TheVariants.{Allowed, NotAllowed, Refused}
use Rattle.judge.proofs.JudgeLaws.{judged_by_test}
use Rattle.model_reader.proofs.judge_build.Goals as goal

is_true : (b : Bool) → cond b Allowed NotAllowed ≡ Allowed → true ≡ b
is_true true e = refl
is_true false e = cc

is_false : (b : Bool) → cond b Allowed NotAllowed ≡ NotAllowed → false ≡ b
is_false true e = cc
is_false false e = refl

not_refused : (b : Bool) (r : Refusal) → cond b Allowed NotAllowed ≡ Refused r → ⊥
not_refused true r e = cc
not_refused false r e = cc

pub returns-in-Allowed : goal.returns-in-Allowed
unfolding chain
returns-in-Allowed c = rw (← c.diagram.view_is, ← (is_true _ (sym (judged_by_test _ _ c.judge-judged.result c.judge-judged.ensures (c.diagram.invariant.0, rw c.diagram.view_is c.requires)) ∙ c.in-Allowed.is)))

pub returns-in-NotAllowed : goal.returns-in-NotAllowed
unfolding chain
returns-in-NotAllowed c = rw (← c.diagram.view_is, ← (is_false _ (sym (judged_by_test _ _ c.judge-judged.result c.judge-judged.ensures (c.diagram.invariant.0, rw c.diagram.view_is c.requires)) ∙ c.in-NotAllowed.is))) c.verdict_of.ensures

pub returns-in-Refused : goal.returns-in-Refused
returns-in-Refused c = absurd (not_refused _ _ (sym (judged_by_test _ _ c.judge-judged.result c.judge-judged.ensures (c.diagram.invariant.0, rw c.diagram.view_is c.requires)) ∙ c.in-Refused.is))
