-- What an answer of `write_text` tells. Assumes nothing.
use Rattle.std.specs.Prelude.{Ok}
use mathlib.Core.Path.{◌≡◌, refl, sym, ap, ◌∙◌}
use mathlib.Core.Logic.{◌↔◌}
use mathlib.Core.List.{List, [], ◌∷◌}
use Prim.Native.Nat.{ℕ, ◌≤◌}
use lib.IntN.{ℤ}
use lib.ListN.{length, get_or, take, drop}
use Rattle.lists.specs.Buffer.{over}
use Rattle.lists.proofs.BufferLaws.{over_parts}
use Rattle.refusal.specs.Rules.{Rule, room_rule, chain}
use Rattle.refusal.specs.Said.{Said, result_of}
use Rattle.refusal.specs.Table.{room_row, ExactlyWhen}
use Rattle.refusal.specs.declared.Refusal.{Refusal}
use Rattle.refusal.proofs.RulesLaws.{passes, passed}
use Rattle.refusal.proofs.TableLaws.{Faithful, faithful_append}
use Rattle.refusal.proofs.RoomLaws.{room_faithful, long_enough, fits}
use Rattle.refusal.proofs.AnsweredLaws.{Told, told}
use Rattle.cnf.specs.Lent.{word_rules, word_table, WellWords}
use Rattle.cnf.proofs.LentLaws.{word_faithful, words_well, well_words}
use Rattle.dimacs.specs.Text.{text_of}
use Rattle.dimacs.specs.Write.{write_rules, write_table, written_said, WrittenBy, WritePromise, written_said_once}
use Rattle.dimacs.specs.declared.TextWritten.TheVariants.{Written, Refused}
use Rattle.dimacs.specs.declared.WriteAnswer.{WriteAnswer}

module _ (v : ℕ) (ws : List ℤ) where
  -- number 7's rule
  abbrev pub room_rules : ℕ → List Rule
  room_rules room = room_rule (length (text_of v ws)) room ∷ []

  -- every rule passes exactly when the words are well and the text fits
  pub all_passed : (room : ℕ) → (chain (write_rules v ws room) ≡ Ok tt) ↔ (WellWords v ws × (length (text_of v ws) ≤ room))
  all_passed room = (
    (λ q. let w = passed (word_rules v ws) (room_rules room) q in (words_well v ws w.0, fits (length (text_of v ws)) room w.1)),
    (λ w. sym (passes (word_rules v ws) (room_rules room) (sym (well_words v ws w.0)) refl (sym (long_enough (length (text_of v ws)) room w.1)))),
  )

  module _ (before : List ℕ) where
    -- the words are well: only the room decides
    pub write_well : WellWords v ws → {answer : WriteAnswer} {after : List ℕ} → WritePromise v ws before answer after → WrittenBy (room_rules (length before)) v ws before answer after
    write_well w {answer} {after} p =
        let q : chain (write_rules v ws (length before)) ≡ chain (room_rules (length before)) = sym (passes (word_rules v ws) (room_rules (length before)) (sym (well_words v ws w)) refl refl) in
        record { says = p.says ∙ rw q; buffer = p.buffer ∙ rw q }

    module _ (answer : WriteAnswer) (after : List ℕ) (promise : WritePromise v ws before answer after) where
      tells : Told written_said Refused (write_rules v ws (length before)) (length (text_of v ws) ∷ []) (over (text_of v ws) before) before answer.outcome after
      tells = told written_said written_said_once Refused (λ r. refl) promise

      write_faithful : Faithful (write_rules v ws (length before)) (write_table v ws (length before))
      write_faithful = faithful_append (word_rules v ws) (room_rules (length before)) (word_table v ws) (room_row (length (text_of v ws)) (length before) ∷ []) (word_faithful v ws) (λ _. room_faithful (length (text_of v ws)) (length before))

      -- each of the numbers 16, 14, 15 and 7 is given exactly when its row is due and none before it is
      pub write_exactly_when : ExactlyWhen (write_table v ws (length before)) (λ r. answer.outcome ≡ Refused r)
      write_exactly_when = tells.told_when (write_table v ws (length before)) write_faithful

      -- a refusal keeps the buffer
      pub write_keeps : (r : Refusal) → answer.outcome ≡ Refused r → after ≡ before
      write_keeps = tells.told_keeps

      -- "written" is answered with a count exactly when the words are well, the text fits, and the count is its bytes'
      pub written_exactly : (n : ℕ) → (answer.outcome ≡ Written n) ↔ (WellWords v ws × (length (text_of v ws) ≤ length before) × (n ≡ length (text_of v ws)))
      written_exactly n =
          let r = tells.told_result (Written n) _ _ refl in (
            (λ q. let p = r.0 q in let w = (all_passed (length before)).0 p.0 in (w.0, w.1, ap (λ (s : Said). get_or s.values 0 0) p.1)),
            (λ w. r.1 ((all_passed (length before)).1 (w.0, w.1), ap (λ (k : ℕ). result_of (k ∷ [])) w.2)),
          )

      -- the bytes are exactly the text's, and what lies past them is kept
      pub written_text : (n : ℕ) → answer.outcome ≡ Written n → (take n after ≡ text_of v ws) × (drop n after ≡ drop n before)
      written_text n q =
          let w = (written_exactly n).0 q in
          let b : after ≡ over (text_of v ws) before = tells.told_leaves ((all_passed (length before)).1 (w.0, w.1)) in
          over_parts (text_of v ws) before w.2 b
