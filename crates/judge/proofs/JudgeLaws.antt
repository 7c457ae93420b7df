-- The judge's rules say what its table says, and where all have passed the answer is whether the diagram allows the
-- build. Assumes nothing.
use Rattle.std.specs.Prelude.{Ok, Err}
use mathlib.Core.Path.{◌≡◌, refl, sym, ◌∙◌, ap}
use mathlib.Core.Bool.{Bool, true, false, not, cond}
use mathlib.Core.List.{List, [], ◌∷◌}
use mathlib.Core.Logic.{◌↔◌}
use Prim.Native.Nat.{ℕ, ◌<◌}
use native.Mathlib.Omega.{arith}
use lib.ListN.{length, get_or}
use lib.Dec.{eqb}
use borrow.Author.Tests.{leb-true, leb-false, eqb-true, eqb-false, eq-eqb, ne_eqb}
use Rattle.lists.specs.First.{found_if, first, FirstFailing}
use Rattle.lists.proofs.FirstLaws.{Tests, tests_each, tests_equal}
use Rattle.refusal.specs.Rules.{Verdict, chain}
use Rattle.refusal.specs.Said.{Said, result_of, saying}
use Rattle.refusal.specs.Table.{ExactlyWhen}
use Rattle.refusal.specs.declared.Refusal.{Refusal}
use Rattle.refusal.proofs.RulesLaws.{refuses, passes, passed, not_due}
use Rattle.refusal.proofs.SaidLaws.{refused_as, said_passed}
use Rattle.refusal.proofs.TableLaws.{Faithful, faithful_append, exactly_when}
use Rattle.diagram.specs.Lent.{Lent, lent, options, domain, chosen, end, Allows, RootAllows}
use Rattle.diagram.specs.Sound.{Sound, check_table}
use Rattle.diagram.specs.Rules.{check_rules}
use Rattle.diagram.proofs.AllowsLaws.{sound_ranked, allows_exactly}
use Rattle.diagram.proofs.SoundLaws.{check_faithful, passed_sound, sound_passed}
use Rattle.judge.specs.Build.{ValueFits, build_table, judge_table, bad_value, build_rules, judge_rules, Fits}
use Rattle.judge.specs.Promise.{judge_said, allows_test, answer_of, JudgedBy, JudgePromise, judge_said_once}
use Rattle.judge.specs.declared.Judged.{Judged}
use Rattle.judge.specs.declared.Judged.TheVariants.{Allowed, NotAllowed, Refused}
use Rattle.judge.specs.declared.JudgeAnswer.{JudgeAnswer}

module _ (d : Lent) (build : List ℕ) where
  -- numbers 8 and 9: what each test is for
  tests_8 : Tests (found_if (not (eqb (length build) (options d))) 0) (λ p. (p ≡ 0) × (length build ≡ options d → ⊥)) (length build ≡ options d)
  tests_8 = tests_equal (length build) (options d)

  tests_9 : Tests (first (bad_value d build) (options d)) (FirstFailing (options d) (ValueFits d build)) ((i : ℕ) → i < options d → ValueFits d build i)
  tests_9 =
      tests_each (bad_value d build) (ValueFits d build) (options d)
      (λ i _ e. leb-false (domain d i) (chosen build i) e) (λ i _ e h. omega (arith, leb-true (domain d i) (chosen build i) e))

  build_faithful : Faithful (build_rules d build) (build_table d build)
  unfolding build_rules
  build_faithful = (refl, tests_8.at, λ _. (refl, tests_9.at, λ _. tt))

  judge_faithful : Faithful (judge_rules d build) (judge_table d build)
  unfolding judge_rules
  judge_faithful = faithful_append (check_rules d) (build_rules d build) (check_table d) (build_table d build) (check_faithful d) (λ _. build_faithful)

  pub passed_fits : chain (build_rules d build) ≡ Ok tt → Fits d build
  unfolding build_rules
  passed_fits e =
      let r = not_due 8 (found_if (not (eqb (length build) (options d))) 0) _ e in
      record { whole = tests_8.none.0 r.0; in_domain = tests_9.none.0 (not_due 9 (first (bad_value d build) (options d)) [] r.1).0 }

  fits_passed : Fits d build → chain (build_rules d build) ≡ Ok tt
  unfolding build_rules chain
  fits_passed f = rw (tests_8.none.1 f.whole, tests_9.none.1 f.in_domain)

  all_passed : (chain (judge_rules d build) ≡ Ok tt) ↔ (Sound d × Fits d build)
  unfolding judge_rules
  all_passed = (
    (λ e. let w = passed (check_rules d) (build_rules d build) e in (passed_sound d w.0, passed_fits w.1)),
    (λ w. sym (passes (check_rules d) (build_rules d build) (sym (sound_passed d w.0)) refl (sym (fits_passed w.1)))),
  )

  -- ---- how `judge` comes to its answer: the diagram is refused, or it has passed and the build is judged

  pub judge_refuses : (r : Refusal) → chain (check_rules d) ≡ Err r → JudgePromise d build (record { outcome = Refused r })
  unfolding judge_rules
  judge_refuses r e = record { says = rw (sym (refuses (check_rules d) (build_rules d build) refl e) ∙ e) }

  pub judge_goes_on : (answer : JudgeAnswer) → chain (check_rules d) ≡ Ok tt → JudgedBy (build_rules d build) d build answer → JudgePromise d build answer
  unfolding judge_rules
  judge_goes_on answer e j = record { says = j.says ∙ ap (λ (v : Verdict). saying v (cond (allows_test d build) 1 0 ∷ [])) (passes (check_rules d) (build_rules d build) refl e refl) }

  answer_says : (b : Bool) → judge_said (cond b Allowed NotAllowed) ≡ result_of (cond b 1 0 ∷ [])
  answer_says true = refl
  answer_says false = refl

  -- of a sound diagram: the build is refused, or it has passed and its walk decides
  pub build_refused : (r : Refusal) → chain (build_rules d build) ≡ Err r → JudgedBy (build_rules d build) d build (record { outcome = Refused r })
  build_refused r e = record { says = rw e }

  pub build_walked : (answer : JudgeAnswer) (b : Bool) → chain (build_rules d build) ≡ Ok tt → b ≡ allows_test d build → answer ≡ answer_of b → JudgedBy (build_rules d build) d build answer
  build_walked answer b e t q = record { says = ap (λ (a : JudgeAnswer). judge_said a.outcome) q ∙ answer_says b ∙ rw (e, ← t) }

  -- ---- what an answer of `judge` tells

  module _ (answer : JudgeAnswer) (promise : JudgePromise d build answer) where
    refused_exactly : (r : Refusal) → (answer.outcome ≡ Refused r) ↔ (chain (judge_rules d build) ≡ Err r)
    refused_exactly = refused_as judge_said judge_said_once Refused (λ r. refl) answer.outcome (chain (judge_rules d build)) _ _ promise.says

    -- each of the numbers 1 to 6, 8 and 9 is given exactly when its row is due and none before it is
    pub judge_exactly_when : ExactlyWhen (judge_table d build) (λ r. answer.outcome ≡ Refused r)
    judge_exactly_when = exactly_when (judge_rules d build) (judge_table d build) judge_faithful refused_exactly

    -- the two results: the walk's test, and what it is for
    results : (o : Judged) (b : Bool) (u : ℕ) → judge_said o ≡ result_of (u ∷ []) → u ≡ cond b 1 0 → Sound d × Fits d build → allows_test d build ≡ b → answer.outcome ≡ o
    results o b u e q w t = judge_said_once answer.outcome o (promise.says ∙ rw (all_passed.1 w, t) (sym (e ∙ ap (λ (n : ℕ). result_of (n ∷ [])) q)))

    -- of a sound diagram and a build that fits it, the answer is what the walk's test says
    pub judged_by_test : Sound d × Fits d build → answer.outcome ≡ cond (allows_test d build) Allowed NotAllowed
    judged_by_test w = go (allows_test d build) refl
      where
        go : (b : Bool) → allows_test d build ≡ b → answer.outcome ≡ cond b Allowed NotAllowed
        go true e = results Allowed true 1 refl refl w e
        go false e = results NotAllowed false 0 refl refl w e

    tells : (o : Judged) (u : ℕ) → judge_said o ≡ result_of (u ∷ []) → answer.outcome ≡ o → (Sound d × Fits d build) × (u ≡ cond (allows_test d build) 1 0)
    tells o u e q =
        let s = sym (ap judge_said q ∙ e) ∙ promise.says in
        let p = said_passed (chain (judge_rules d build)) u [] _ [] s in
        let q : saying (chain (judge_rules d build)) (cond (allows_test d build) 1 0 ∷ []) ≡ result_of (cond (allows_test d build) 1 0 ∷ []) = rw p in
        (all_passed.0 p, ap (λ (t : Said). get_or t.values 0 0) (s ∙ q))

    is_one : (b : Bool) → ◌≡◌ {A = ℕ} (cond b 1 0) 1 → b ≡ true
    is_one true e = refl
    is_one false e = absurd (omega arith)

    is_none : (b : Bool) → ◌≡◌ {A = ℕ} (cond b 1 0) 0 → b ≡ false
    is_none true e = absurd (omega arith)
    is_none false e = refl

    allowed_so : Sound d × Fits d build → Allows d (chosen build) ↔ RootAllows d (chosen build)
    allowed_so w = allows_exactly d (sound_ranked d w.0) (chosen build) w.1.in_domain

    -- "allowed" is answered exactly when the diagram is sound, the build fits it, and the root allows the build
    pub allowed_exactly : (answer.outcome ≡ Allowed) ↔ ((Sound d × Fits d build) × RootAllows d (chosen build))
    allowed_exactly = (
      (λ e. let w = tells Allowed 1 refl e in (w.0, (allowed_so w.0).0 (eqb-true (end d (chosen build) 2) 1 (is_one (allows_test d build) (sym w.1))))),
      (λ w. results Allowed true 1 refl refl w.0 (eq-eqb (end d (chosen build) 2) 1 ((allowed_so w.0).1 w.1))),
    )

    -- "not allowed" exactly when the diagram is sound, the build fits it, and the root does not allow it
    pub not_allowed_exactly : (answer.outcome ≡ NotAllowed) ↔ ((Sound d × Fits d build) × (RootAllows d (chosen build) → ⊥))
    not_allowed_exactly = (
      (λ e. let w = tells NotAllowed 0 refl e in (w.0, λ a. eqb-false (end d (chosen build) 2) 1 (is_none (allows_test d build) (sym w.1)) ((allowed_so w.0).1 a))),
      (λ w. results NotAllowed false 0 refl refl w.0 (ne_eqb (end d (chosen build) 2) 1 (λ q. w.1 ((allowed_so w.0).0 q)))),
    )

-- the rules of the build read no list but the domains
pub same_build_rules : (ds ls ts build : List ℕ) → build_rules (lent ds [] []) build ≡ build_rules (lent ds ls ts) build
unfolding build_rules
same_build_rules ds ls ts build = refl
