-- The rules of `read_model` say what its table says, and where all have passed the model reads as one build, which is
-- the one that the list holds. Assumes nothing.
use Rattle.std.specs.Prelude.{Ok}
use mathlib.Core.Path.{◌≡◌, refl, sym, ◌∙◌, ap, subst}
use mathlib.Core.Bool.{not}
use mathlib.Core.List.{List, [], ◌∷◌, ◌++◌}
use mathlib.Core.Logic.{◌↔◌}
use Prim.Native.Nat.{ℕ, ◌≤◌, ◌<◌}
use lib.IntN.{ℤ}
use lib.ListN.{length, get_or, take, drop}
use borrow.Author.Tests.{eqb-true, eqb-false, not-true, not-false}
use Rattle.lists.specs.First.{found_if}
use Rattle.lists.specs.Buffer.{over}
use Rattle.lists.proofs.FirstLaws.{Tests, tests_one}
use Rattle.lists.proofs.BufferLaws.{over_parts}
use Rattle.refusal.specs.Rules.{Rule, chain}
use Rattle.refusal.specs.Said.{Said, result_of}
use Rattle.refusal.specs.Table.{room_row, ExactlyWhen}
use Rattle.refusal.specs.declared.Refusal.{Refusal}
use Rattle.refusal.proofs.RulesLaws.{passes, passed, not_due}
use Rattle.refusal.proofs.TableLaws.{Faithful, faithful_append}
use Rattle.refusal.proofs.RoomLaws.{room_faithful, long_enough, fits}
use Rattle.refusal.proofs.AnsweredLaws.{Told, told}
use Rattle.diagram.specs.Lent.{Lent, options, chosen, Allows, RootAllows}
use Rattle.diagram.specs.Sound.{Sound, check_table}
use Rattle.diagram.specs.Rules.{check_rules}
use Rattle.diagram.proofs.AllowsLaws.{sound_ranked, allows_exactly}
use Rattle.diagram.proofs.SoundLaws.{check_faithful, passed_sound, sound_passed}
use Rattle.judge.specs.Promise.{allows_test}
use Rattle.clauses.specs.Clauses.{Edition, last_variable}
use Rattle.naming.specs.Naming.{naming_rules}
use Rattle.model.specs.Model.{NamedFirst, OneValue, BuildOf, AllowedBuild, ReadsAs, literal_table, model_table}
use Rattle.model.specs.Rules.{build_of, value_rules, literal_rules, sound_rules, model_rules}
use Rattle.model.specs.Promise.{model_said, ModelPromise, model_said_once}
use Rattle.model.specs.declared.ModelRead.TheVariants.{Built, Refused}
use Rattle.model.specs.declared.ModelAnswer.{ModelAnswer}
use Rattle.model.proofs.ReadLaws.{room_rules}
use Rattle.model.proofs.NamedLaws.{tests_10, tests_11, tests_12, values_passed, build_said, one_build, build_fits}

module _ (d : Lent) (m : List ℤ) where
  -- number 13: what its test is for, where the numbers before it have passed
  tests_13 : Sound d → ((k : ℕ) → k < length m → NamedFirst d m k) → ((i : ℕ) → i < options d → OneValue d m i) → Tests (found_if (not (allows_test d (build_of d m))) 0) (λ p. (p ≡ 0) × (AllowedBuild d m → ⊥)) (AllowedBuild d m)
  tests_13 s once one =
      tests_one (not (allows_test d (build_of d m))) (AllowedBuild d m)
      (λ e. record { build = build_of d m; is_said = said; allowed = allows.0 (eqb-true _ 1 (not-false _ e)) })
      (λ e a. eqb-false _ 1 (not-true _ e) (allows.1 (subst (λ (b : List ℕ). RootAllows d (chosen b)) (one_build d m a.build (build_of d m) a.is_said said) a.allowed)))
    where
      said : BuildOf d m (build_of d m)
      said = build_said d m once one

      allows : Allows d (chosen (build_of d m)) ↔ RootAllows d (chosen (build_of d m))
      allows = allows_exactly d (sound_ranked d s) (chosen (build_of d m)) (build_fits d m (build_of d m) said).in_domain

  -- a build that the model says has its one value for each option
  each_one : (build : List ℕ) → BuildOf d m build → (i : ℕ) → i < options d → OneValue d m i
  each_one build b i h = (chosen build i, b.each i h)

  module _ (e : Edition) where
    -- numbers 10 to 13, of which 12 and 13 rest on those before them
    abbrev literals : List Rule
    literals = literal_rules d m (last_variable e d)

    literals_faithful : Sound d → Faithful literals (literal_table d m e)
    unfolding literal_rules value_rules naming_rules
    literals_faithful s = (
      refl,
      (tests_10 (last_variable e d) m).at,
      λ _. (
        refl,
        (tests_11 d m).at,
        λ q. let once = (tests_11 d m).none.0 q in (refl, (tests_12 d m once).at, λ r. (refl, (tests_13 s once ((tests_12 d m once).none.0 r)).at, λ _. tt)),
      ),
    )

    -- in a sound diagram they pass exactly when the model reads as a build
    passed_reads : Sound d → chain literals ≡ Ok tt → (build : List ℕ) × ReadsAs d m e build
    unfolding literal_rules
    passed_reads s q =
        let w = passed (value_rules d m (last_variable e d)) _ q in
        let v = values_passed d m (last_variable e d) w.0 in
        let a = (tests_13 s v.0.named_first v.1).none.0 (not_due 13 _ [] w.1).0 in
        (a.build, record { well_named = v.0; is_said = a.is_said; allowed = a.allowed })

    reads_passed : Sound d → (build : List ℕ) → ReadsAs d m e build → chain literals ≡ Ok tt
    unfolding literal_rules value_rules naming_rules chain
    reads_passed s build r =
        let once = r.well_named.named_first in
        let one = each_one build r.is_said in
        rw (
          (tests_10 (last_variable e d) m).none.1 r.well_named.ranged,
          (tests_11 d m).none.1 once,
          (tests_12 d m once).none.1 one,
          (tests_13 s once one).none.1 (record { build = build; is_said = r.is_said; allowed = r.allowed }),
        )

    -- ---- all numbers: those of the diagram, then the list's length, then those of the literals

    module _ (room : ℕ) where
      model_faithful : Faithful (model_rules d m e room) (model_table d m e room)
      unfolding model_rules sound_rules
      model_faithful =
          faithful_append (check_rules d) (room_rules d room ++ literals) (check_table d) (room_row (options d) room ∷ literal_table d m e) (check_faithful d)
          (λ p. faithful_append (room_rules d room) literals (room_row (options d) room ∷ []) (literal_table d m e) (room_faithful (options d) room) (λ _. literals_faithful (passed_sound d p)))

      -- every rule passes exactly when the diagram is sound, its options fit into the list, and the model reads as a build
      all_passed : (chain (model_rules d m e room) ≡ Ok tt) ↔ ((Sound d × (options d ≤ room)) × ((build : List ℕ) × ReadsAs d m e build))
      unfolding model_rules sound_rules
      all_passed = (
        (λ q.
            let w = passed (check_rules d) (room_rules d room ++ literals) q in
            let u = passed (room_rules d room) literals w.1 in
            let s = passed_sound d w.0 in
            ((s, fits (options d) room u.0), passed_reads s u.1)),
        (λ w.
            let s = w.0.0 in
            let q = passes (room_rules d room) literals (sym (long_enough (options d) room w.0.1)) refl (sym (reads_passed s w.1.0 w.1.1)) in
            sym (passes (check_rules d) (room_rules d room ++ literals) (sym (sound_passed d s)) refl q)),
      )

    -- ---- what an answer of `read_model` tells

    module _ (before : List ℕ) (answer : ModelAnswer) (after : List ℕ) (promise : ModelPromise e d m before answer after) where
      tells : Told model_said Refused (model_rules d m e (length before)) (options d ∷ []) (over (build_of d m) before) before answer.outcome after
      tells = told model_said model_said_once Refused (λ r. refl) promise

      -- each of the numbers 1 to 7 and 10 to 13 is given exactly when its row is due and none before it is
      pub model_exactly_when : ExactlyWhen (model_table d m e (length before)) (λ r. answer.outcome ≡ Refused r)
      model_exactly_when = tells.told_when (model_table d m e (length before)) (model_faithful (length before))

      -- a refusal keeps the list
      pub model_keeps : (r : Refusal) → answer.outcome ≡ Refused r → after ≡ before
      model_keeps = tells.told_keeps

      -- "built" is answered with a count exactly when the diagram is sound, its options fit into the list, the model reads
      -- as a build, and the count is the number of options
      pub built_exactly : (n : ℕ) → (answer.outcome ≡ Built n) ↔ ((Sound d × (options d ≤ length before)) × ((build : List ℕ) × ReadsAs d m e build) × (n ≡ options d))
      built_exactly n =
          let r = tells.told_result (Built n) _ _ refl in (
            (λ q. let p = r.0 q in let w = (all_passed (length before)).0 p.0 in (w.0, w.1, ap (λ (s : Said). get_or s.values 0 0) p.1)),
            (λ w. r.1 ((all_passed (length before)).1 (w.0, w.1), ap (λ (k : ℕ). result_of (k ∷ [])) w.2)),
          )

      -- the build is exactly the one that the model says, and what lies past it is kept
      pub built_list : (n : ℕ) → answer.outcome ≡ Built n → (build : List ℕ) → BuildOf d m build → (take n after ≡ build) × (drop n after ≡ drop n before)
      built_list n q build b =
          let w = (built_exactly n).0 q in
          let s : build_of d m ≡ build = one_build d m (build_of d m) build (build_said d m w.1.1.well_named.named_first (each_one build b)) b in
          let a : after ≡ over build before = tells.told_leaves ((all_passed (length before)).1 (w.0, w.1)) ∙ ap (λ (l : List ℕ). over l before) s in
          let c : n ≡ length build = w.2 ∙ sym b.whole in
          over_parts build before c a
