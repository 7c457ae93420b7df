-- What the clauses mean, for every list of clauses that has the common part and, for an allowed build, what is to be shown
-- beyond it. Assumes nothing.
use mathlib.Core.Path.{◌≡◌, refl, sym, ◌∙◌, ap, subst}
use mathlib.Core.Logic.{◌↔◌}
use mathlib.Core.Bool.{Bool, true, not, true≢false}
use mathlib.Core.List.{List}
use Prim.Native.Nat.{ℕ, suc, ◌<◌}
use native.Mathlib.Decide.{ℕ_discrete}
use native.Mathlib.Omega.{arith}
use lib.IntN.{ℤ}
use lib.Dec.{eqb}
use borrow.Author.Tests.{eqb-true, eq-eqb, ne_eqb}
use Rattle.lists.proofs.ChoiceLaws.{choose}
use Rattle.cnf.specs.Clause.{Clause, says, Setting, holds, Satisfies, Reached, given}
use Rattle.cnf.proofs.Propagation.{said, reached_holds, no_conflict}
use Rattle.diagram.specs.Lent.{Lent, options, domain, end, Allows, Build}
use Rattle.diagram.specs.Numbers.{first_value}
use Rattle.diagram.proofs.AllowsLaws.{Ranked, allows_exactly}
use Rattle.clauses.specs.Variables.{value_variable}
use Rattle.clauses.specs.Clauses.{Edition, helper_number, first_helper, last_variable, option_clauses}
use Rattle.clauses.specs.Editions.{ValueIs, ExactlyOne}
use Rattle.clauses.proofs.VariableLaws.{value_within, reference_within, edge_within, helper_within, setting_of, of_value, of_reference, of_edge, of_helper, every_variable}
use Rattle.clauses.proofs.Common.{Common, Chooses}
use Rattle.clauses.proofs.Meant.{Stands, Meant}
use Rattle.demands.specs.Demand3.{SettingFor, SameTo, Gives, BuildLiteral, OneSetting, Meaning}
use Rattle.demands.specs.HalfFinished.{Order, OrderLiteral, literal_in, literal_out, FitsOrder}
use Rattle.demands.proofs.Orders.{order_conflict, build_conflict}

-- a truth value that is a test of equality is true exactly where the two are equal
exactly_where : {b : Bool} (i j : ℕ) → b ≡ eqb i j → (b ≡ true) ↔ (i ≡ j)
exactly_where i j e = ((λ p. eqb-true i j (sym e ∙ p)), (λ q. e ∙ eq-eqb i j q))

-- the build's literals are reached
build_reached : (d : Lent) (x : ℕ → ℕ) (cs : List Clause) → Chooses d x (BuildLiteral d x) cs
build_reached d x cs i h = given record { option = i; there = h; names = refl }

-- a build for which the setting is one
record BuildOf (d : Lent) (cs : List Clause) (σ : Setting) : Type 0 where
  build : ℕ → ℕ
  is_build : Build d build
  for_it : SettingFor d cs build σ

-- ---- a build's own setting, from what its references and edges are to be

module _ (e : Edition) (one : ExactlyOne e) (d : Lent) (reference : ℕ → Bool) (edge : ℕ → ℕ → Bool) (x : ℕ → ℕ) where
  abbrev value : ℕ → ℕ → Bool
  value i j = eqb j (x i)

  abbrev helper : ℕ → ℕ → Bool
  helper i t = one.helper (domain d i) (x i) t

  abbrev pub own_setting : Setting
  own_setting = setting_of e d value reference edge helper

  -- a setting that is the same on every variable stands for the build, and satisfies the options' clauses
  module _ (σ : Setting) (same : SameTo (last_variable e d) σ own_setting) where
    own_stands : Stands d x reference edge σ
    own_stands =
        record {
          value_is = λ i j h l. let w = value_within e d i j h l in same _ w.0 w.1 ∙ of_value e d value reference edge helper i j h l;
          reference_is = λ r h. let w = reference_within e d r (omega arith) in same _ w.0 w.1 ∙ of_reference e d value reference edge helper r h;
          edge_is = λ v j h l. let w = edge_within e d v j h l in same _ w.0 w.1 ∙ of_edge e d value reference edge helper v j h l;
        }

    own_options : Build d x → (i : ℕ) → i < options d → Satisfies σ (option_clauses e d i)
    own_options b i h = (one.satisfied_exactly (first_value d i) (first_helper e d i) (domain d i) σ).1 (x i, record { below = b i h; value_is = λ j l. own_stands.value_is i j h l; helper_is = helped })
      where
        helped : (t : ℕ) → t < e.helpers (domain d i) → σ (helper_number (first_helper e d i) t) ≡ helper i t
        helped t l = let w = helper_within e d i t h l in same _ w.0 w.1 ∙ of_helper e d value reference edge helper i t h l

module _ (e : Edition) (one : ExactlyOne e) (d : Lent) (ok : Ranked d) (cs : List Clause) (has : Common e d cs) where
  -- ---- a satisfying setting: each option has one true value

  abbrev OptionIs : Setting → ℕ → ℕ → Type 0
  OptionIs σ i j = ValueIs e one.helper (first_value d i) (first_helper e d i) (domain d i) σ j

  one_true : (σ : Setting) → Satisfies σ cs → (i : ℕ) → i < options d → (j : ℕ) × OptionIs σ i j
  one_true σ s i h = (one.satisfied_exactly (first_value d i) (first_helper e d i) (domain d i) σ).0 (λ c m. s c (has.has_option i h c m))

  -- ---- a build and a setting for it

  module _ (x : ℕ → ℕ) (b : Build d x) (σ : Setting) (for_it : SettingFor d cs x σ) where
    literal_holds : (l : ℤ) → BuildLiteral d x l → holds σ l ≡ true
    literal_holds l c = subst (λ (m : ℤ). holds σ m ≡ true) (sym c.names) (for_it.agrees c.option c.there)

    forced : (n : ℕ) (v : Bool) → Reached (BuildLiteral d x) cs (says v (suc n)) → σ (suc n) ≡ v
    forced n v r = said σ v n (reached_holds σ for_it.satisfies literal_holds r)

    -- a build that has a setting is allowed
    setting_allows : Allows d x
    setting_allows = go (ℕ_discrete (end d x 2) 1)
      where
        go : Dec (end d x 2 ≡ 1) → Allows d x
        go (yes q) = q
        go (no n) = absurd (no_conflict σ for_it.satisfies literal_holds (build_conflict e one d ok cs has x b n))

    -- the one true value of an option is the build's
    forced_option : (i : ℕ) → i < options d → OptionIs σ i (x i)
    forced_option i h =
        let t = one_true σ for_it.satisfies i h in
        let q : t.0 ≡ x i = sym (eqb-true (x i) t.0 (sym (t.1.value_is (x i) (b i h)) ∙ for_it.agrees i h)) in
        subst (OptionIs σ i) q t.1

  build_of_lem : (σ : Setting) → Satisfies σ cs → BuildOf d cs σ
  build_of_lem σ s =
      let t = choose (OptionIs σ) (options d) (one_true σ s) in
      let b : Build d t.0 = λ i h. (t.1 i h).below in
      record { build = t.0; is_build = b; for_it = record { agrees = λ i h. (t.1 i h).value_is (t.0 i) (b i h) ∙ eq-eqb (t.0 i) (t.0 i) refl; satisfies = s } }

  -- ---- where an allowed build's references and edges are these

  module _ (reference : (ℕ → ℕ) → ℕ → Bool) (edge : (ℕ → ℕ) → ℕ → ℕ → Bool) (meant : (x : ℕ → ℕ) → Build d x → Allows d x → Meant e d cs x (reference x) (edge x)) where
    abbrev own : (ℕ → ℕ) → Setting
    own x = own_setting e one d (reference x) (edge x) x

    -- every setting for it is its own, on every variable
    pub setting_own : (x : ℕ → ℕ) → Build d x → Allows d x → (σ : Setting) → SettingFor d cs x σ → SameTo (last_variable e d) σ (own x)
    setting_own x b a σ p = every_variable e d (λ n. σ n ≡ own x n)
        (λ i j h l. (forced_option x b σ p i h).value_is j l ∙ sym (of_value e d _ _ _ _ i j h l))
        (λ r h. forced x b σ p _ _ ((meant x b a).reference_decided (BuildLiteral d x) (build_reached d x cs) r h) ∙ sym (of_reference e d _ _ _ _ r h))
        (λ v j h l. forced x b σ p _ _ ((meant x b a).edge_decided (BuildLiteral d x) (build_reached d x cs) v j h l) ∙ sym (of_edge e d _ _ _ _ v j h l))
        (λ i t h l. (forced_option x b σ p i h).helper_is t l ∙ sym (of_helper e d _ _ _ _ i t h l))

    -- and whatever is the same on every variable satisfies the clauses
    own_satisfies : (x : ℕ → ℕ) → Build d x → Allows d x → (σ : Setting) → SameTo (last_variable e d) σ (own x) → Satisfies σ cs
    own_satisfies x b a σ same = (meant x b a).satisfied σ (own_stands e one d (reference x) (edge x) x σ same) (own_options e one d (reference x) (edge x) x σ same b)

    one_setting : (x : ℕ → ℕ) → Build d x → Allows d x → OneSetting d (last_variable e d) cs x
    one_setting x b a =
        record {
          setting = own x;
          for_it = record { agrees = λ i h. of_value e d _ _ _ _ i (x i) h (b i h) ∙ eq-eqb (x i) (x i) refl; satisfies = own_satisfies x b a (own x) (λ n l k. refl) };
          no_other = λ σ τ p q n l k. setting_own x b a σ p n l k ∙ sym (setting_own x b a τ q n l k);
        }

    pub meaning_of : Meaning d (last_variable e d) cs (Build d) (λ x. x)
    meaning_of =
        record {
          allowed = λ x b a. one_setting x b ((allows_exactly d ok x b).1 a);
          not_allowed = λ x b n. record {
            none = λ σ p. n ((allows_exactly d ok x b).0 (setting_allows x b σ p));
            conflict = build_conflict e one d ok cs has x b (λ a. n ((allows_exactly d ok x b).0 a));
          };
          every_satisfying = λ σ s.
              let t = build_of_lem σ s in
              let a = setting_allows t.build t.is_build σ t.for_it in
              let gives : Gives d t.build σ = record { in_range = t.is_build; exactly = λ i j h l. exactly_where j (t.build i) ((forced_option t.build t.is_build σ t.for_it i h).value_is j l) } in
              (t.build, t.is_build, gives, (allows_exactly d ok t.build t.is_build).0 a);
          only_to_last = λ σ τ same s.
              let t = build_of_lem σ s in
              let a = setting_allows t.build t.is_build σ t.for_it in
              own_satisfies t.build t.is_build a τ (λ n l k. sym (same n l k) ∙ setting_own t.build t.is_build a σ t.for_it n l k);
          half_finished = record {
            none_fits = λ o none. order_conflict e one d ok cs has o (λ x b f a. none x b f ((allows_exactly d ok x b).0 a));
            one_fits = λ o x b f a. let w = one_setting x b ((allows_exactly d ok x b).1 a) in no_conflict w.setting w.for_it.satisfies (order_holds o x f w.setting (λ i h j l. (forced_option x b w.setting w.for_it i h).value_is j l));
          };
        }
      where
        order_holds : (o : Order) (x : ℕ → ℕ) → FitsOrder d o x → (σ : Setting) → ((i : ℕ) → i < options d → (j : ℕ) → j < domain d i → σ (value_variable d i j) ≡ eqb j (x i)) → (l : ℤ) → OrderLiteral d o l → holds σ l ≡ true
        order_holds o x f σ v l (literal_in i j h hj p q) = subst (λ (m : ℤ). holds σ m ≡ true) (sym q) (v i h j hj ∙ eq-eqb j (x i) (f.keeps_in i j h hj p))
        order_holds o x f σ v l (literal_out i j h hj p q) = subst (λ (m : ℤ). holds σ m ≡ true) (sym q) (ap not (v i h j hj ∙ ne_eqb j (x i) (λ w. true≢false (sym p ∙ ap (o.ruled_out i) w ∙ f.keeps_out i h))))
