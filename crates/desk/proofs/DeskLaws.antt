-- What an answer of `run` tells: which refusals are printed, exactly when, and that a buffer of 73,750 bytes is long enough.
-- Assumes nothing.
use Rattle.std.specs.Prelude.{Ok, Err}
use mathlib.Core.Path.{◌≡◌, refl, sym, ap, ◌∙◌}
use mathlib.Core.List.{List, [], ◌∷◌}
use Prim.Native.Nat.{ℕ, ◌≤◌}
use native.Mathlib.Omega.{arith}
use lib.Dec.{ltb}
use lib.ListN.{length}
use borrow.Author.Tests.{ltb-true, ltb-false}
use Rattle.lists.proofs.FirstLaws.{tests_at}
use Rattle.lists.specs.Buffer.{over}
use Rattle.lists.proofs.BufferLaws.{over_parts}
use Rattle.refusal.specs.Rules.{Verdict, refusal, room_rule, chain}
use Rattle.refusal.specs.Table.{room_row, ExactlyWhen}
use Rattle.refusal.specs.declared.Refusal.{Refusal}
use Rattle.refusal.proofs.TableLaws.{Faithful, faithful_append, passes_or_refuses, exactly_when}
use Rattle.refusal.proofs.RulesLaws.{passed, never_both}
use Rattle.refusal.proofs.RoomLaws.{room_faithful, long_enough}
use Rattle.refusal.proofs.AnsweredLaws.{Told, told}
use Rattle.clauses.proofs.WellListed.{edition1_listed}
use Rattle.dimacs.proofs.WriterLaws.{text_most}
use Rattle.encoding.proofs.EncodeLaws.{encode_faithful, all_passed}
use Rattle.diagram_file.specs.File.{file_diagram}
use Rattle.diagram_file.specs.Rules.{file_rules}
use Rattle.diagram_file.proofs.FileLaws.{file_faithful}
use Rattle.desk.specs.Output.{most_bytes, most_sizes, most_words, edition, list_rules, lines_rules, desk_rules, desk_table, diagram_text, refusal_lines, printing}
use Rattle.desk.specs.Promise.{desk_said, outcome_of, PrintedBy, DeskPromise, Printed, refusal_as_lines, clause_text, Prints, desk_said_once}
use Rattle.desk.specs.declared.DeskRun.{DeskRun}
use Rattle.desk.specs.declared.DeskRun.TheVariants as run
use Rattle.desk.specs.declared.DeskAnswer.{DeskAnswer}
use Rattle.desk.proofs.PrintLaws.{lines_most}

-- what is printed where it fits
fits : (v : Verdict) (text before : List ℕ) (answer : DeskAnswer) (after : List ℕ) → PrintedBy v text before answer after → length (printing v text) ≤ length before → (answer.outcome ≡ outcome_of v (length (printing v text))) × (after ≡ over (printing v text) before)
fits (Ok tt) text before answer after p h =
    let q = long_enough (length text) (length before) h in
    (desk_said_once answer.outcome (run.Text (length text)) (p.says ∙ rw q), p.buffer ∙ rw q)
fits (Err r) text before answer after p h =
    let q = long_enough (length (refusal_lines r)) (length before) h in
    (desk_said_once answer.outcome (run.Told (length (refusal_lines r)) r) (p.says ∙ rw q), p.buffer ∙ rw q)

module _ (input : List ℕ) where
  desk_faithful : Faithful (desk_rules input) (desk_table input)
  unfolding desk_rules
  desk_faithful = (
    refl,
    (tests_at 0 (ltb most_bytes (length input)) (length input ≤ most_bytes) (λ e. ltb-false most_bytes (length input) e) (λ e h. omega (arith, ltb-true most_bytes (length input) e))).at,
    λ _. faithful_append (file_rules input most_sizes) (list_rules (file_diagram input)) _ _ (file_faithful input most_sizes) (λ _. encode_faithful edition (file_diagram input) most_words),
  )

  by_table : ExactlyWhen (desk_table input) (λ r. chain (desk_rules input) ≡ Err r)
  by_table = exactly_when (desk_rules input) (desk_table input) desk_faithful (λ r. ((λ e. e), (λ e. e)))

  -- what is printed by the rules' verdict is what the table says
  is_printed : (v : Verdict) → chain (desk_rules input) ≡ v → Printed input (outcome_of v (length (printing v (diagram_text (file_diagram input))))) (printing v (diagram_text (file_diagram input)))
  is_printed (Ok tt) e = clause_text (by_table.not_refused.0 (λ r q. never_both (chain (desk_rules input)) e q))
  is_printed (Err r) e = refusal_as_lines r.number r.place ((by_table.refused r.number r.place).0 e)

  printed_is : {outcome : DeskRun} {bytes : List ℕ} → Printed input outcome bytes → (v : Verdict) × (chain (desk_rules input) ≡ v) × (outcome ≡ outcome_of v (length bytes)) × (bytes ≡ printing v (diagram_text (file_diagram input)))
  printed_is (refusal_as_lines n p g) = (Err (refusal n p), (by_table.refused n p).1 g, refl, refl)
  printed_is (clause_text none) = ((Ok tt), passes_or_refuses (chain (desk_rules input)) (by_table.not_refused.1 none), refl, refl)

  -- ---- how much is printed

  text_short : chain (desk_rules input) ≡ Ok tt → length (diagram_text (file_diagram input)) ≤ 73750
  unfolding desk_rules
  text_short q =
      let w = passed (file_rules input most_sizes) (list_rules (file_diagram input)) (passed (_ ∷ []) (lines_rules input) q).1 in
      let s = (all_passed edition (file_diagram input) most_words).0 w.1 in
      omega (arith, text_most (edition1_listed (file_diagram input) s.0), s.1)

  short : (v : Verdict) → chain (desk_rules input) ≡ v → length (printing v (diagram_text (file_diagram input))) ≤ 73750
  short (Ok tt) q = text_short q
  short (Err r) q = omega (arith, lines_most r)

  -- something is, and it is never longer than the program's buffer
  pub is_short : (outcome : DeskRun) × (bytes : List ℕ) × Printed input outcome bytes × (length bytes ≤ 73750)
  is_short = (_, _, is_printed (chain (desk_rules input)) refl, short (chain (desk_rules input)) refl)

-- ---- a buffer that is too short

tells : (v : Verdict) (text before : List ℕ) (answer : DeskAnswer) (after : List ℕ) → PrintedBy v text before answer after
    → Told desk_said run.Refused (room_rule (length (printing v text)) (length before) ∷ []) (desk_said (outcome_of v (length (printing v text)))).values (over (printing v text) before) before answer.outcome after
tells (Ok tt) text before answer after p = told desk_said desk_said_once run.Refused (λ r. refl) p
tells (Err r) text before answer after p = told desk_said desk_said_once run.Refused (λ r. refl) p

-- of what is to be printed
module _ (input before : List ℕ) (answer : DeskAnswer) (after : List ℕ) (promise : DeskPromise input before answer after) {outcome : DeskRun} {bytes : List ℕ} (w : Printed input outcome bytes) where
  by : PrintedBy (printed_is input w).0 (diagram_text (file_diagram input)) before answer after
  by = rw (printed_is input w).1 at promise

  -- number 7 is answered exactly when it does not fit, and no other number is
  pub short_exactly_when : ExactlyWhen (room_row (length bytes) (length before) ∷ []) (λ r. answer.outcome ≡ run.Refused r)
  short_exactly_when = rw (printed_is input w).3 ((tells (printed_is input w).0 _ before answer after by).told_when (room_row _ (length before) ∷ []) (room_faithful _ (length before)))

  -- and then the buffer is kept
  pub short_keeps : (r : Refusal) → answer.outcome ≡ run.Refused r → after ≡ before
  short_keeps = (tells (printed_is input w).0 _ before answer after by).told_keeps

  -- where it fits, it is printed
  pub prints : length bytes ≤ length before → Prints outcome bytes before answer after
  prints h =
      let k = printed_is input w in
      let g = fits k.0 _ before answer after by (rw k.3 at h) in
      let o = over_parts bytes before refl (g.1 ∙ ap (λ (b : List ℕ). over b before) (sym k.3)) in
      record { answered = g.0 ∙ ap (λ (b : List ℕ). outcome_of k.0 (length b)) (sym k.3) ∙ sym k.2; the_bytes = o.0; the_rest = o.1 }
