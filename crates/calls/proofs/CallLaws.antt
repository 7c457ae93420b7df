-- How a call through the C interface answers: not at all, where the answer is too short, or what the library said. Assumes
-- nothing.
use Rattle.std.specs.Prelude.{Ok, Err}
use mathlib.Core.Path.{◌≡◌, refl, sym, ◌∙◌, ap}
use mathlib.Core.List.{List, []}
use Prim.Native.Nat.{ℕ, ◌≤◌, ◌<◌}
use lib.ListN.{length}
use Rattle.refusal.specs.Rules.{Verdict, Rule, chain}
use Rattle.refusal.specs.Said.{Said, saying}
use Rattle.refusal.specs.Answered.{AnsweredBy}
use Rattle.diagram.specs.Lent.{Lent}
use Rattle.diagram.specs.Rules.{check_rules}
use Rattle.diagram.specs.Promise.{counts_said, counts_of, check_said, CheckPromise}
use Rattle.diagram.specs.declared.CheckAnswer.{CheckAnswer}
use Rattle.entries.specs.Answer.{silent, Answered}
use Rattle.entries.proofs.AnswerLaws.{left_short, left_long, answered_as}
use Rattle.calls.specs.Call.{Called}

module _ {B : Type 0} {rules : List Rule} {values : List ℕ} {written before : B} {answer : List ℕ} where
  pub called_short : length answer < 6 → Called rules values written before answer before answer
  called_short h = record { answers = left_short h; buffer = left_short h }

  -- the library answered, and the answer gives what it said
  pub called_long : {A : Type 0} {said : A → Said} {outcome : A} {after : B} {answered : List ℕ} → 6 ≤ length answer
      → AnsweredBy said rules values written before outcome after → Answered (said outcome) answer answered → Called rules values written before answer after answered
  called_long h p q = record { answers = answered_as (sym p.says) q; buffer = left_long h p.buffer }

-- ---- `check`, whose counts are not given

silent_saying : (w : Verdict) (values : List ℕ) → silent (saying w values) ≡ saying w []
silent_saying (Ok tt) values = refl
silent_saying (Err r) values = refl

-- what is to be said, where `check` answered a
pub check_said_lem : {d : Lent} {a : CheckAnswer} → CheckPromise d a → silent (check_said a.outcome) ≡ saying (chain (check_rules d)) []
check_said_lem {d = d} p = ap silent p.says ∙ silent_saying (chain (check_rules d)) (counts_said (counts_of d))
