-- How a function that writes a list of clauses comes to its answer, and what its answer tells. Assumes nothing.
use Rattle.std.specs.Prelude.{Ok, Err}
use mathlib.Core.Path.{◌≡◌, refl, ap}
use mathlib.Core.Logic.{◌↔◌}
use mathlib.Core.List.{List, [], ◌∷◌, ◌++◌}
use Prim.Native.Nat.{ℕ, ◌≤◌, ◌<◌}
use native.Mathlib.Omega.{arith}
use lib.ListN.{length, take, drop}
use lib.IntN.{ℤ}
use Rattle.lists.specs.Buffer.{over}
use Rattle.lists.proofs.BufferLaws.{over_parts}
use Rattle.refusal.specs.Rules.{Rule, refusal, room_rule, chain}
use Rattle.refusal.specs.Said.{result_of}
use Rattle.refusal.specs.Table.{Row, ExactlyWhen}
use Rattle.refusal.specs.declared.Refusal.{Refusal}
use Rattle.refusal.proofs.TableLaws.{Faithful}
use Rattle.refusal.proofs.AnsweredLaws.{by_refusal, by_result, first_refuse, goes_on, Told, told}
use Rattle.refusal.proofs.RoomLaws.{too_short, long_enough}
use Rattle.cnf.specs.Clause.{Clause, words}
use Rattle.cnf.specs.Encoded.{tally_of, tally_said, encoded_said, EncodedBy, encoded_said_once}
use Rattle.cnf.specs.declared.Tally.{Tally}
use Rattle.cnf.specs.declared.Encoded.TheVariants.{Written, Refused}
use Rattle.cnf.specs.declared.EncodeAnswer.{EncodeAnswer}

module _ (cs : List Clause) (last : ℕ) (before : List ℤ) where
  -- ---- how it comes to its answer: the first rules refuse; or they pass, and the buffer is too short or not

  module _ (first later : List Rule) where
    pub encode_refuses : (r : Refusal) → chain first ≡ Err r → EncodedBy (first ++ later) cs last before (record { outcome = Refused r }) before
    encode_refuses r q = first_refuse encoded_said _ _ before first later refl q

    pub encode_goes_on : (answer : EncodeAnswer) (after : List ℤ) → chain first ≡ Ok tt → EncodedBy later cs last before answer after → EncodedBy (first ++ later) cs last before answer after
    encode_goes_on answer after q j = goes_on encoded_said _ _ before first later q j

  pub encode_short : {p : ℕ} → p ≡ length (words cs) → length before < p → EncodedBy (room_rule (length (words cs)) (length before) ∷ []) cs last before (record { outcome = Refused (refusal 7 p) }) before
  encode_short q h = by_refusal encoded_said _ _ before refl (rw q (too_short (length (words cs)) (length before) (omega arith)))

  pub encode_writes : {t : Tally} → t ≡ tally_of cs last → length (words cs) ≤ length before → {after : List ℤ} → after ≡ over (words cs) before → EncodedBy (room_rule (length (words cs)) (length before) ∷ []) cs last before (record { outcome = Written t }) after
  encode_writes q h b = by_result encoded_said _ _ before (rw q) (long_enough (length (words cs)) (length before) h) b

  -- ---- what an answer tells

  module _ (rules : List Rule) (answer : EncodeAnswer) (after : List ℤ) (promise : EncodedBy rules cs last before answer after) where
    tells : Told encoded_said Refused rules (tally_said (tally_of cs last)) (over (words cs) before) before answer.outcome after
    tells = told encoded_said encoded_said_once Refused (λ r. refl) promise

    -- where the rules compute a table: each number is given exactly when its row is due and none before it is
    pub encoded_exactly_when : (table : List Row) → Faithful rules table → ExactlyWhen table (λ r. answer.outcome ≡ Refused r)
    encoded_exactly_when = tells.told_when

    -- a refusal keeps the buffer
    pub encoded_keeps : (r : Refusal) → answer.outcome ≡ Refused r → after ≡ before
    encoded_keeps = tells.told_keeps

    -- "written" is answered with counts exactly when the rules pass and the counts are the list's own
    pub written_exactly : (t : Tally) → (answer.outcome ≡ Written t) ↔ ((chain rules ≡ Ok tt) × (t ≡ tally_of cs last))
    written_exactly t =
        let w = tells.told_result (Written t) _ _ refl in
        ((λ q. let p = w.0 q in (p.0, own (encoded_said_once (Written t) (Written (tally_of cs last)) p.1))), (λ p. w.1 (p.0, ap (λ (t : Tally). result_of (tally_said t)) p.1)))
      where
        own : {s t : Tally} → Written s ≡ Written t → s ≡ t
        own e = cc

    -- the words are exactly the list's, and what lies past them is kept
    pub written_list : (t : Tally) → answer.outcome ≡ Written t → (take t.words after ≡ words cs) × (drop t.words after ≡ drop t.words before)
    written_list t q =
        let w = (written_exactly t).0 q in
        let n : t.words ≡ length (words cs) = ap (λ (t : Tally). t.words) w.1 in
        let b : after ≡ over (words cs) before = tells.told_leaves w.0 in
        over_parts (words cs) before n b
