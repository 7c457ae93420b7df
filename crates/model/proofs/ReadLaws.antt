-- How `read_model` comes to its answer: the diagram is refused; or the list is too short, a literal, an option or the build is
-- refused, or the build goes out. Assumes nothing.
use Rattle.std.specs.Prelude.{None, Ok, Err, Result}
use mathlib.Core.Path.{◌≡◌, refl, sym, ◌∙◌, ap}
use mathlib.Core.Bool.{not}
use mathlib.Core.List.{List, [], ◌∷◌}
use Prim.Native.Nat.{ℕ, ◌≤◌}
use native.Mathlib.Omega.{arith}
use lib.IntN.{ℤ}
use lib.ListN.{length, take}
use Rattle.lists.specs.First.{found_if, first}
use Rattle.lists.specs.Buffer.{over}
use Rattle.lists.proofs.UptoLaws.{list_singles}
use Rattle.lists.proofs.FirstLaws.{first_agrees}
use Rattle.lists.proofs.BufferLaws.{over_parts}
use Rattle.refusal.specs.Rules.{Verdict, Rule, rule, room_rule, chain}
use Rattle.refusal.specs.Said.{saying, leaving, giving}
use Rattle.refusal.specs.declared.Refusal.{Refusal}
use Rattle.refusal.proofs.RulesLaws.{refuses, passes, not_due}
use Rattle.refusal.proofs.RoomLaws.{long_enough}
use Rattle.diagram.specs.Lent.{Lent, lent, options}
use Rattle.diagram.specs.Numbers.{first_value, values}
use Rattle.diagram.specs.Rules.{check_rules}
use Rattle.diagram.proofs.NumberLaws.{value_sums}
use Rattle.judge.specs.Build.{Fits}
use Rattle.judge.specs.Promise.{allows_test}
use Rattle.clauses.specs.Clauses.{Edition, last_variable}
use Rattle.naming.specs.Naming.{naming_rules}
use Rattle.naming.specs.Marks.{Marks, marked_true}
use Rattle.model.specs.Rules.{unclear, value_of, values_to, names_true, build_of, value_rules, literal_rules, sound_rules, model_rules}
use Rattle.model.specs.Promise.{model_said, ModelPromise}
use Rattle.model.specs.Steps.{room_verdict, unread, first_unread, values_verdict, values_after, write_result, write_after, answer_of}
use Rattle.model.proofs.MarkLaws.{marked_unread, same_unclear, same_values}
use Rattle.model.proofs.NamedLaws.{values_passed, build_said, build_fits}

-- number 7, as a list of its own
abbrev pub room_rules : Lent → ℕ → List Rule
room_rules d room = room_rule (options d) room ∷ []

-- the options' values, and how they are read, are those of the domains: no other list of the diagram is read
module _ (ds ls ts marks : List ℕ) where
  pub same_verdict : (room : ℕ) → values_verdict (lent ds [] []) marks room ≡ values_verdict (lent ds ls ts) marks room
  unfolding unread unclear first_value
  same_verdict room = refl

  pub same_after : (before : List ℕ) → values_after (lent ds [] []) marks before ≡ values_after (lent ds ls ts) marks before
  unfolding unread unclear value_of first_value
  same_after before = refl

-- where there are marks for all values, an option is refused only where it has not exactly one true value
unread_unclear : (d : Lent) (marks : List ℕ) → values d ≤ length marks → first_unread d marks ≡ first (unclear d (marked_true marks)) (options d)
unread_unclear d marks small = first_agrees _ _ (options d) (λ i h. marked_unread d marks i (omega (arith, (value_sums d).room i (options d) h)))

-- ---- numbers 7 and 10 to 13: one is due, or none is

module _ (d : Lent) (m : List ℤ) (last : ℕ) where
  -- where the list is too short
  pub sound_short : (room : ℕ) {r : Refusal} → room_verdict (options d) room ≡ Err r → chain (sound_rules d m last room) ≡ Err r
  unfolding sound_rules
  sound_short room q = sym (refuses (room_rules d room) (literal_rules d m last) refl q) ∙ q

  -- where it is not, the literals decide
  pub sound_long : (room : ℕ) → room_verdict (options d) room ≡ Ok tt → chain (sound_rules d m last room) ≡ chain (literal_rules d m last)
  unfolding sound_rules
  sound_long room q = sym (passes (room_rules d room) (literal_rules d m last) refl q refl)

  values_refuse : {r : Refusal} → chain (value_rules d m last) ≡ Err r → chain (literal_rules d m last) ≡ Err r
  unfolding literal_rules
  values_refuse q = sym (refuses (value_rules d m last) _ refl q) ∙ q

  pub names_refuse : {r : Refusal} → chain (naming_rules last (values d) m) ≡ Err r → chain (literal_rules d m last) ≡ Err r
  unfolding value_rules
  names_refuse q = values_refuse (sym (refuses (naming_rules last (values d) m) _ refl q) ∙ q)

  module _ (small : values d ≤ 2048) (named : chain (naming_rules last (values d) m) ≡ Ok tt) {marks : List ℕ} (marked : Marks (values d) m (length m) marks) where
    -- number 12 is due where the marks say so
    unread_said : first_unread d marks ≡ first (unclear d (names_true d m)) (options d)
    unread_said = unread_unclear d marks (omega (arith, marked.whole)) ∙ same_unclear d m marks marked

    module _ (before : List ℕ) {build front : List ℕ} {read : Verdict} (room : options d ≤ length before) (verdict : read ≡ values_verdict d marks (length before)) (after : build ≡ values_after d marks before) (lies : front ≡ take (options d) build) where
      values_said : read ≡ chain (value_rules d m last)
      unfolding value_rules
      values_said = passes (naming_rules last (values d) m) _ refl named (verdict ∙ rw (long_enough (options d) (length before) room, unread_said))

      pub unclear_refuse : {r : Refusal} → read ≡ Err r → chain (literal_rules d m last) ≡ Err r
      unclear_refuse q = values_refuse (sym values_said ∙ q)

      pub values_built : read ≡ Ok tt → front ≡ build_of d m
      values_built p =
          let long = long_enough (options d) (length before) room in
          let none : first_unread d marks ≡ None = (not_due 12 (first_unread d marks) [] (rw long at (sym verdict ∙ p))).0 in
          let whole : build ≡ over (values_to d (marked_true marks) (options d)) before = after ∙ rw (long, none) in
          lies ∙ (over_parts (values_to d (marked_true marks) (options d)) before (sym (list_singles (options d) (value_of d (marked_true marks)))) whole).0 ∙ same_values d m marks marked

      pub values_fit : read ≡ Ok tt → Fits d front
      values_fit p = let v = values_passed d m last (sym values_said ∙ p) in rw (values_built p) (build_fits d m (build_of d m) (build_said d m v.0.named_first v.1))

      -- and then 13 decides
      pub judge_decides : read ≡ Ok tt → {allowed : Verdict} → allowed ≡ chain (rule 13 (found_if (not (allows_test d front)) 0) ∷ []) → allowed ≡ chain (literal_rules d m last)
      unfolding literal_rules
      judge_decides q judged = passes (value_rules d m last) _ values_said q (judged ∙ rw (values_built q))

-- the build goes out where it has room
pub built_out : (d : Lent) (m : List ℤ) (front out : List ℕ) → room_verdict (options d) (length out) ≡ Ok tt → length front ≡ options d → front ≡ build_of d m → (write_result front out ≡ Ok (options d)) × (write_after front out ≡ over (build_of d m) out)
built_out d m front out long n e = (rw (n, long), rw (n, long) (ap (λ (l : List ℕ). over l out) e))

-- ---- of any diagram

module _ (e : Edition) (d : Lent) (m : List ℤ) (room : ℕ) where
  pub check_refuses : {r : Refusal} → chain (check_rules d) ≡ Err r → chain (model_rules d m e room) ≡ Err r
  unfolding model_rules
  check_refuses q = sym (refuses (check_rules d) _ refl q) ∙ q

  pub check_passes : chain (check_rules d) ≡ Ok tt → chain (model_rules d m e room) ≡ chain (sound_rules d m (last_variable e d) room)
  unfolding model_rules
  check_passes q = sym (passes (check_rules d) _ refl q refl)

answer_says : (v : Verdict) (n : ℕ) → model_said (answer_of (giving v n)).outcome ≡ saying v (n ∷ [])
answer_says (Ok tt) n = refl
answer_says (Err r) n = refl

-- what is given back says the answer
pub read_answered : (e : Edition) (d : Lent) (m : List ℤ) (before after : List ℕ) {read : Result ℕ Refusal}
    → read ≡ giving (chain (model_rules d m e (length before))) (options d) → after ≡ leaving (chain (model_rules d m e (length before))) (over (build_of d m) before) before
    → ModelPromise e d m before (answer_of read) after
read_answered e d m before after p q = record { says = ap (λ (r : Result ℕ Refusal). model_said (answer_of r).outcome) p ∙ answer_says (chain (model_rules d m e (length before))) (options d); buffer = q }
