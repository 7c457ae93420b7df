-- What an answer of `check` tells: each number is given exactly when its row of the table is due and none before it is,
-- and "sound" is answered exactly when the diagram is sound, with its counts. Assumes nothing.
use Rattle.std.specs.Prelude.{Ok, Err}
use mathlib.Core.Path.{◌≡◌, refl, sym, ◌∙◌, ap}
use mathlib.Core.Logic.{◌↔◌}
use Rattle.refusal.specs.Rules.{chain}
use Rattle.refusal.specs.Table.{ExactlyWhen}
use Rattle.refusal.specs.declared.Refusal.{Refusal}
use Rattle.refusal.proofs.SaidLaws.{refused_as, said_passed}
use Rattle.refusal.proofs.TableLaws.{exactly_when}
use Rattle.diagram.specs.Lent.{Lent}
use Rattle.diagram.specs.Sound.{Sound, check_table}
use Rattle.diagram.specs.Rules.{check_rules}
use Rattle.diagram.specs.Promise.{check_said, counts_of, CheckPromise, check_said_once}
use Rattle.diagram.specs.declared.Diagram.{Diagram}
use Rattle.diagram.specs.declared.Checked.TheVariants.{Sound as IsSound, Refused}
use Rattle.diagram.specs.declared.CheckAnswer.{CheckAnswer}
use Rattle.diagram.proofs.SoundLaws.{check_faithful, passed_sound, sound_passed}

module _ (d : Lent) (answer : CheckAnswer) (promise : CheckPromise d answer) where
  pub answer_refused : (r : Refusal) → (answer.outcome ≡ Refused r) ↔ (chain (check_rules d) ≡ Err r)
  answer_refused = refused_as check_said check_said_once Refused (λ r. refl) answer.outcome (chain (check_rules d)) _ _ promise.says

  pub answer_sound : {c : Diagram} → answer.outcome ≡ IsSound c → chain (check_rules d) ≡ Ok tt
  answer_sound e = said_passed (chain (check_rules d)) _ _ _ _ (sym (ap check_said e) ∙ promise.says)

  -- each number from 1 to 6 is given exactly when its row is due and none before it is
  pub check_exactly_when : ExactlyWhen (check_table d) (λ r. answer.outcome ≡ Refused r)
  check_exactly_when = exactly_when (check_rules d) (check_table d) (check_faithful d) answer_refused

  sound_said : Sound d → answer.outcome ≡ IsSound (counts_of d)
  sound_said s = check_said_once answer.outcome _ (promise.says ∙ rw (sound_passed d s))

  sound_counts : {c : Diagram} → Sound d → answer.outcome ≡ IsSound c → c ≡ counts_of d
  sound_counts s e = let q = sym e ∙ sound_said s in cc

  -- "sound" is answered with counts exactly when the diagram is sound and they are its own
  pub sound_exactly : (c : Diagram) → (answer.outcome ≡ IsSound c) ↔ (Sound d × (c ≡ counts_of d))
  sound_exactly c = (
    (λ e. let s = passed_sound d (answer_sound e) in (s, sound_counts s e)),
    (λ w. sound_said w.0 ∙ ap IsSound (sym w.1)),
  )
