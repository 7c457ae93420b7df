-- The picture of sample S3 is right; and S1, S2 and S3 are sound, so that no theorem about sound diagrams is empty.
-- Assumes nothing.
use mathlib.Core.Path.{◌≡◌, refl, sym, ◌∙◌, ap, subst}
use mathlib.Core.Logic.{◌⊎◌, inl, inr, ⊎_elim}
use mathlib.Core.Bool.{Bool, false, ◌&&◌, false≢true, true}
use mathlib.Core.List.{List, [], ◌∷◌, Memᴰ}
use Prim.Native.Nat.{ℕ, zero, suc, ◌<◌}
use native.Mathlib.Omega.{arith}
use lib.Dec.{eqb}
use lib.IntN.{ℤ, neg_ℤ}
use lib.ListN.{get_or}
use Rattle.lists.specs.Upto.{sum_to, up_to, last_to}
use Rattle.lists.specs.Every.{Every, Each}
use Rattle.lists.specs.First.{first}
use Rattle.lists.proofs.UptoLaws.{list_same}
use Rattle.lists.proofs.EveryLaws.{every_more, each_every, entry_in}
use Rattle.refusal.specs.Rules.{chain}
use Rattle.cnf.specs.Clause.{Clause, Setting, Satisfies, Reached, given, unit, Conflict}
use Rattle.diagram.specs.Lent.{first_edge, step, walk, end, chosen, Build, RootAllows, options}
use Rattle.diagram.specs.Numbers.{first_value}
use Rattle.diagram.specs.Sound.{Sound}
use Rattle.diagram.specs.Rules.{bad_layer, permits, owner, bad_target, option_rules, node_rules, target_rules, check_rules}
use Rattle.diagram.proofs.SoundLaws.{passed_sound}
use Rattle.diagram.proofs.AllowsLaws.{Ranked, sound_ranked, allows_exactly}
use Rattle.judge.specs.Build.{build_rules, Fits}
use Rattle.judge.proofs.JudgeLaws.{passed_fits}
use Rattle.clauses.specs.Variables.{value_variable}
use Rattle.clauses.specs.Clauses.{edition1, first_helper, last_variable, clauses}
use Rattle.clauses.proofs.Edition1.{edition1_one}
use Rattle.clauses.proofs.VariableLaws.{setting_of}
use Rattle.clauses.proofs.Common.{Common, clauses_common}
use Rattle.clauses.proofs.Decided.{arrives, taken}
use Rattle.clauses.proofs.Satisfied.{clauses_meant}
use Rattle.demands.specs.HalfFinished.{OrderLiteral, FitsOrder}
use Rattle.demands.specs.Demand3.{SettingFor, SameTo, Gives, BuildLiteral, OneSetting, NoSetting, Meaning}
use Rattle.demands.specs.Samples.{s1, s2, s3}
use Rattle.demands.specs.Picture.{s3_clauses, build01, build11, setting01, Reach, Propagates, given11, reached11, first0_out, second0_out, second_out, Picture}
use Rattle.demands.proofs.Meaning.{own_setting, setting_own}
use Rattle.demands.proofs.Demand3.{edition1_demand3}

pub samples_sound : Each Sound (s1 ∷ s2 ∷ s3 ∷ [])
unfolding sum_to last_to first chain first_edge bad_layer permits owner bad_target option_rules node_rules target_rules check_rules
samples_sound = (passed_sound s1 refl, (passed_sound s2 refl, (passed_sound s3 refl, tt)))

the_clauses : clauses edition1 s3 ≡ s3_clauses
unfolding sum_to up_to first_edge first_value first_helper clauses
the_clauses = refl

-- ---- the two builds

abbrev sound3 : Sound s3
sound3 = samples_sound.1.1.0

abbrev ok3 : Ranked s3
ok3 = sound_ranked s3 sound3

abbrev has : Common edition1 s3 (clauses edition1 s3)
has = clauses_common edition1 s3

abbrev meaning3 : Meaning s3 (last_variable edition1 s3) (clauses edition1 s3) (Fits s3) chosen
meaning3 = edition1_demand3.with_lists s3 sound3

fits01 : Fits s3 (0 ∷ 1 ∷ [])
unfolding first chain build_rules
fits01 = passed_fits s3 (0 ∷ 1 ∷ []) refl

fits11 : Fits s3 (1 ∷ 1 ∷ [])
unfolding first chain build_rules
fits11 = passed_fits s3 (1 ∷ 1 ∷ []) refl

allows01 : RootAllows s3 build01
unfolding sum_to first_edge step walk
allows01 = (allows_exactly s3 ok3 build01 fits01.in_domain).0 refl

not_allows11 : RootAllows s3 build11 → ⊥
unfolding sum_to first_edge step walk
not_allows11 a = absurd (let q : ◌≡◌ {A = ℕ} 0 1 = (allows_exactly s3 ok3 build11 fits11.in_domain).1 a in omega arith)

-- no other build is allowed
only01 : (x : ℕ → ℕ) → Build s3 x → RootAllows s3 x → (x 0 ≡ 0) × (x 1 ≡ 1)
unfolding sum_to first_edge step walk
only01 x b a = go (x 0) (x 1) refl refl (b 0 (omega arith)) (b 1 (omega arith)) ((allows_exactly s3 ok3 x b).1 a)
  where
    go : (i j : ℕ) → x 0 ≡ i → x 1 ≡ j → i < 2 → j < 2 → end s3 x 2 ≡ 1 → (x 0 ≡ 0) × (x 1 ≡ 1)
    go zero zero p q h k w = absurd (let z : ◌≡◌ {A = ℕ} 0 1 = rw (p, q) at w in omega arith)
    go zero (suc zero) p q h k w = (p, q)
    go zero (suc (suc j)) p q h k w = absurd (omega arith)
    go (suc zero) j p q h k w = absurd (let z : ◌≡◌ {A = ℕ} 0 1 = rw p at w in omega arith)
    go (suc (suc i)) j p q h k w = absurd (omega arith)

-- ---- the setting of (0,1)

abbrev own : Setting
own = own_setting edition1 edition1_one s3 (arrives s3 build01) (taken s3 build01) build01

own_is : up_to 12 (λ k. own (suc k) ∷ []) ≡ setting01
unfolding sum_to up_to last_to first_edge first_value step walk setting_of
own_is = refl

one01 : OneSetting s3 12 (clauses edition1 s3) build01
unfolding sum_to first_edge first_value first_helper
one01 = meaning3.allowed (0 ∷ 1 ∷ []) fits01 allows01

setting_of_lem : (σ : Setting) → SettingFor s3 (clauses edition1 s3) build01 σ → up_to 12 (λ k. σ (suc k) ∷ []) ≡ setting01
unfolding sum_to first_edge first_value first_helper
setting_of_lem σ p = list_same (λ k. σ (suc k) ∷ []) (λ k. own (suc k) ∷ []) 12 (λ k h. ap (λ (b : Bool). b ∷ []) (same (suc k) (omega arith) (omega arith))) ∙ own_is
  where
    same : SameTo 12 σ own
    same = setting_own edition1 edition1_one s3 ok3 (clauses edition1 s3) has (arrives s3) (taken s3) (clauses_meant edition1_one ok3) build01 fits01.in_domain ((allows_exactly s3 ok3 build01 fits01.in_domain).1 allows01) σ p

-- and every satisfying setting is one for (0,1)
for01 : (σ : Setting) → Satisfies σ (clauses edition1 s3) → SettingFor s3 (clauses edition1 s3) build01 σ
for01 σ s = let t = (edition1_demand3.with_functions s3 sound3).every_satisfying σ s in record { agrees = agrees t.0 t.2 (only01 t.0 t.1 t.3); satisfies = s }
  where
    agrees : (x : ℕ → ℕ) → Gives s3 x σ → (x 0 ≡ 0) × (x 1 ≡ 1) → (i : ℕ) → i < options s3 → σ (value_variable s3 i (build01 i)) ≡ true
    agrees x g o zero h = (g.exactly 0 0 (omega arith) (omega arith)).1 (sym o.0)
    agrees x g o (suc zero) h = (g.exactly 1 1 (omega arith) (omega arith)).1 (sym o.1)
    agrees x g o (suc (suc i)) h = absurd (omega arith)

-- ---- from (1,1)

-- what propagates so, from literals that are reached, ends in a conflict
propagates_conflict : {Given : ℤ → Type 0} (cs : List Clause) (known : List ℤ) (rs : List Reach) (k : ℕ) → Every (Reached Given cs) known → Propagates cs known rs k → Conflict Given cs
propagates_conflict {Given} cs known [] k f p = record { clause = get_or cs k []; among = entry_in [] cs k p.0; against = λ m mm. f (neg_ℤ m) (each_every (λ m. Memᴰ (neg_ℤ m) known) (get_or cs k []) p.1 m mm) }
propagates_conflict {Given} cs known (r ∷ rs) k f p = propagates_conflict cs (r.literal ∷ known) rs k (every_more (Reached Given cs) reached f) p.3
  where
    reached : Reached Given cs r.literal
    reached = unit (get_or cs r.by []) (entry_in [] cs r.by p.0) p.1 (λ m mm ne. ⊎_elim (λ (q : m ≡ r.literal). absurd (ne q)) (f (neg_ℤ m)) (each_every (λ m. (m ≡ r.literal) ⊎ Memᴰ (neg_ℤ m) known) (get_or cs r.by []) p.2 m mm))

the_literals : Each (BuildLiteral s3 build11) given11
unfolding sum_to first_value
the_literals = (record { option = 0; there = omega arith; names = refl }, (record { option = 1; there = omega arith; names = refl }, tt))

at_once : {A : Type 0} {a : A} {l : List A} → Memᴰ a (a ∷ l)
at_once = Memᴰ.head refl

the_way : Propagates s3_clauses given11 reached11 6
the_way = (
  omega arith,
  at_once,
  (inl refl, (inr at_once, tt)),
  (
    omega arith,
    at_once,
    (inl refl, (inr at_once, tt)),
    (
      omega arith,
      at_once,
      (inl refl, tt),
      (
        omega arith,
        at_once,
        (inl refl, (inr at_once, tt)),
        (
          omega arith,
          at_once,
          (inl refl, (inr (Memᴰ.tail (Memᴰ.tail at_once)), (inr at_once, tt))),
          (omega arith, (at_once, tt)),
        ),
      ),
    ),
  ),
)

-- the same conflict as the theorem's, gone to by hand
none11 : NoSetting s3 s3_clauses build11
none11 =
    record {
      none = (subst (λ (cs : List Clause). NoSetting s3 cs build11) the_clauses (meaning3.not_allowed (1 ∷ 1 ∷ []) fits11 not_allows11)).none;
      conflict = propagates_conflict s3_clauses given11 reached11 6 (λ l m. given (each_every (BuildLiteral s3 build11) given11 the_literals l m)) the_way;
    }

-- ---- the orders

first_none : (x : ℕ → ℕ) → Build s3 x → FitsOrder s3 first0_out x → RootAllows s3 x → ⊥
first_none x b f a = false≢true (sym (f.keeps_out 0 (omega arith)) ∙ ap (λ (j : ℕ). eqb 0 0 && eqb j 0) (only01 x b a).0)

second_fits : FitsOrder s3 second0_out build01
second_fits = record { keeps_in = λ i j h l p. absurd (false≢true p); keeps_out = out }
  where
    out : (i : ℕ) → i < 2 → eqb i 1 && eqb (build01 i) 0 ≡ false
    out zero h = refl
    out (suc zero) h = refl
    out (suc (suc i)) h = absurd (omega arith)

-- ---- all of it

pub picture : Picture
picture =
    record {
      sound = sound3;
      the_clauses = the_clauses;
      has_setting = subst (λ (cs : List Clause). OneSetting s3 12 cs build01) the_clauses one01;
      the_setting = subst (λ (cs : List Clause). (σ : Setting) → Satisfies σ cs → up_to 12 (λ k. σ (suc k) ∷ []) ≡ setting01) the_clauses (λ σ s. setting_of_lem σ (for01 σ s));
      has_none = none11;
      the_literals = the_literals;
      the_way = the_way;
      first_conflicts = subst (λ (cs : List Clause). Conflict (OrderLiteral s3 first0_out) cs) the_clauses ((edition1_demand3.with_functions s3 sound3).half_finished.none_fits first0_out first_none);
      second_open = subst (λ (cs : List Clause). Conflict (OrderLiteral s3 second0_out) cs → ⊥) the_clauses (meaning3.half_finished.one_fits second0_out (0 ∷ 1 ∷ []) fits01 second_fits allows01);
      third_conflicts = edition1_demand3.option_out s3 second_out 1 (omega arith) (λ j h. refl);
    }
