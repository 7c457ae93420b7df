-- What an answer of `encode` tells: each number is given exactly when its row of the table is due and none before it is;
-- and the words are written exactly when the diagram is sound and they fit. Assumes nothing.
use Rattle.std.specs.Prelude.{Ok}
use mathlib.Core.Path.{◌≡◌, refl, sym}
use mathlib.Core.Logic.{◌↔◌}
use mathlib.Core.List.{List, [], ◌∷◌}
use Prim.Native.Nat.{ℕ, ◌≤◌}
use lib.ListN.{length}
use lib.IntN.{ℤ}
use Rattle.refusal.specs.Rules.{room_rule, chain}
use Rattle.refusal.specs.Table.{room_row, ExactlyWhen}
use Rattle.refusal.specs.declared.Refusal.{Refusal}
use Rattle.refusal.proofs.RulesLaws.{passes, passed}
use Rattle.refusal.proofs.TableLaws.{Faithful, faithful_append}
use Rattle.refusal.proofs.RoomLaws.{room_faithful, long_enough, fits}
use Rattle.cnf.specs.Encoded.{tally_of}
use Rattle.cnf.specs.declared.Tally.{Tally}
use Rattle.cnf.specs.declared.Encoded.TheVariants.{Written, Refused}
use Rattle.cnf.specs.declared.EncodeAnswer.{EncodeAnswer}
use Rattle.cnf.proofs.EncodedLaws.{encoded_exactly_when, encoded_keeps, written_exactly}
use Rattle.diagram.specs.Lent.{Lent}
use Rattle.diagram.specs.Sound.{Sound, check_table}
use Rattle.diagram.specs.Rules.{check_rules}
use Rattle.diagram.proofs.SoundLaws.{check_faithful, passed_sound, sound_passed}
use Rattle.clauses.specs.Clauses.{Edition, clauses, last_variable}
use Rattle.encoding.specs.Promise.{needed, encode_table, encode_rules, EncodePromise}

module _ (e : Edition) (d : Lent) where
  pub encode_faithful : (room : ℕ) → Faithful (encode_rules e d room) (encode_table e d room)
  unfolding encode_rules
  encode_faithful room = faithful_append (check_rules d) (room_rule (needed e d) room ∷ []) (check_table d) (room_row (needed e d) room ∷ []) (check_faithful d) (λ _. room_faithful (needed e d) room)

  pub all_passed : (room : ℕ) → (chain (encode_rules e d room) ≡ Ok tt) ↔ (Sound d × (needed e d ≤ room))
  unfolding encode_rules
  all_passed room = (
    (λ q. let w = passed (check_rules d) (room_rule (needed e d) room ∷ []) q in (passed_sound d w.0, fits (needed e d) room w.1)),
    (λ w. sym (passes (check_rules d) (room_rule (needed e d) room ∷ []) (sym (sound_passed d w.0)) refl (sym (long_enough (needed e d) room w.1)))),
  )

  module _ (before : List ℤ) (answer : EncodeAnswer) (after : List ℤ) (promise : EncodePromise e d before answer after) where
    -- each number from 1 to 7 is given exactly when its row is due and none before it is
    pub encode_exactly_when : ExactlyWhen (encode_table e d (length before)) (λ r. answer.outcome ≡ Refused r)
    encode_exactly_when = encoded_exactly_when _ _ before (encode_rules e d (length before)) answer after promise (encode_table e d (length before)) (encode_faithful (length before))

    -- a refusal keeps the buffer
    pub encode_keeps : (r : Refusal) → answer.outcome ≡ Refused r → after ≡ before
    encode_keeps = encoded_keeps _ _ before (encode_rules e d (length before)) answer after promise

    -- "written" is answered with counts exactly when the diagram is sound, its words fit, and the counts are its own
    pub encode_written : (t : Tally) → (answer.outcome ≡ Written t) ↔ ((Sound d × (needed e d ≤ length before)) × (t ≡ tally_of (clauses e d) (last_variable e d)))
    encode_written t =
        let w = written_exactly (clauses e d) (last_variable e d) before (encode_rules e d (length before)) answer after promise t in
        let p = all_passed (length before) in
        ((λ q. (p.0 (w.0 q).0, (w.0 q).1)), (λ h. w.1 (p.1 h.0, h.1)))
