-- What the marks and the counts of a model's literals say of its variables and of the options: the tests of the numbers
-- 10 to 12 are for what their rows ask. Assumes nothing.
use Rattle.std.specs.Prelude.{Ok}
use mathlib.Core.Path.{◌≡◌, refl, sym, ◌∙◌, ap, subst}
use mathlib.Core.Bool.{Bool, true, false, not, ◌&&◌, true≢false}
use mathlib.Core.List.{List, [], Memᴰ}
use mathlib.Core.Logic.{◌↔◌}
use Prim.Native.Nat.{ℕ, zero, suc, ◌≤◌, ◌<◌}
use native.Mathlib.Omega.{arith}
use lib.Dec.{leb, eqb}
use lib.IntN.{ℤ, pos, negsuc, nat_abs}
use lib.ListN.{length}
use lib.Seq.{ext_get_or}
use borrow.Author.Tests.{le-ltb, le-leb, leb-true, eqb-true, eqb-false, eq-eqb, not-true, not-false}
use Rattle.lists.specs.First.{first, FirstFailing}
use Rattle.lists.specs.Signed.{is_zero, is_negative}
use Rattle.lists.proofs.UptoLaws.{list_singles, list_at}
use Rattle.lists.proofs.EveryLaws.{entry_in, in_entry}
use Rattle.lists.proofs.FirstLaws.{Tests, tests_each, count_one, one_count}
use Rattle.refusal.specs.Rules.{chain}
use Rattle.refusal.proofs.RulesLaws.{not_due}
use Rattle.diagram.specs.Lent.{Lent, options, domain, chosen}
use Rattle.diagram.specs.Numbers.{values}
use Rattle.diagram.specs.Rules.{outside}
use Rattle.diagram.proofs.ShapedLaws.{inside, not_inside}
use Rattle.diagram.proofs.NumberLaws.{value_sums}
use Rattle.judge.specs.Build.{Fits}
use Rattle.clauses.specs.Variables.{value_variable}
use Rattle.literals.specs.Literals.{literal, variable, bad_literal, bad_at}
use Rattle.naming.specs.Naming.{mark_of, mark, again, naming_rules}
use Rattle.naming.proofs.NameLaws.{unmarked_exactly, marked_named, mark_stays}
use Rattle.model.specs.Model.{NamedTrue, InRange, NamedFirst, ValueOf, OneValue, BuildOf, WellNamed}
use Rattle.model.specs.Rules.{has_value, unclear, value_of, names_true, build_of, value_rules}

-- ---- number 10

bad_outside : (last : ℕ) (l : ℤ) → bad_literal last l ≡ outside 1 last (nat_abs l)
unfolding is_zero
bad_outside last (pos zero) = refl
bad_outside last (pos (suc n)) = rw (le-ltb (suc n) 1 (omega arith))
bad_outside last (negsuc n) = rw (le-ltb (suc n) 1 (omega arith))

pub tests_10 : (last : ℕ) (m : List ℤ) → Tests (first (bad_at last m) (length m)) (FirstFailing (length m) (InRange last m)) ((k : ℕ) → k < length m → InRange last m k)
tests_10 last m =
    tests_each (bad_at last m) (InRange last m) (length m)
    (λ k _ e. inside 1 last (variable m k) (sym (bad_outside last (literal m k)) ∙ e)) (λ k _ e. not_inside 1 last (variable m k) (sym (bad_outside last (literal m k)) ∙ e))

module _ (d : Lent) (m : List ℤ) where
  -- ---- number 11

  again_good : (k : ℕ) → again (values d) m k ≡ false → NamedFirst d m k
  unfolding again
  again_good k e h = (unmarked_exactly m k (variable m k)).0 (eqb-true _ 0 (not-false _ (rw (le-leb (variable m k) (values d) h) at e)))

  again_not_good : (k : ℕ) → again (values d) m k ≡ true → NamedFirst d m k → ⊥
  unfolding again
  again_not_good k e f = go (leb (variable m k) (values d)) refl e
    where
      go : (b : Bool) → leb (variable m k) (values d) ≡ b → (b && not (eqb (mark m k (variable m k)) 0)) ≡ true → ⊥
      go true q e = eqb-false _ 0 (not-true _ e) ((unmarked_exactly m k (variable m k)).1 (f (leb-true (variable m k) (values d) q)))
      go false q e = true≢false (sym e)

  pub tests_11 : Tests (first (again (values d) m) (length m)) (FirstFailing (length m) (NamedFirst d m)) ((k : ℕ) → k < length m → NamedFirst d m k)
  tests_11 = tests_each (again (values d) m) (NamedFirst d m) (length m) (λ k _. again_good k) (λ k _. again_not_good k)

  -- ---- number 12, where no literal names a value variable again

  module _ (once : (k : ℕ) → k < length m → NamedFirst d m k) where
    -- a value variable is marked true exactly when the model names it true
    pub marked_exactly : (x : ℕ) → x ≤ values d → (mark m (length m) x ≡ 1) ↔ NamedTrue m x
    unfolding is_negative
    marked_exactly x h = (
      (λ e. let w = marked_named m (length m) x e in subst (λ (l : ℤ). Memᴰ l m) w.2 (entry_in (pos 0) m w.0 w.1)),
      (λ n. named (in_entry (pos 0) m n)),
    )
      where
        named : (j : ℕ) × (j < length m) × (literal m j ≡ pos x) → mark m (length m) x ≡ 1
        named w =
            let q : variable m w.0 ≡ x = ap nat_abs w.2 in
            mark_stays m (length m) w.0 x w.1 q (λ i l g e. once i g (omega arith) w.0 l (q ∙ sym e)) ∙ ap mark_of w.2

    -- value j of option i counts as true exactly when the model names it true
    true_exactly : (i j : ℕ) → i < options d → j < domain d i → (has_value d (names_true d m) i j ≡ true) ↔ NamedTrue m (value_variable d i j)
    true_exactly i j h l =
        let w = marked_exactly (value_variable d i j) (omega (arith, (value_sums d).room i (options d) h)) in
        ((λ e. w.0 (eqb-true _ 1 e)), (λ n. eq-eqb _ 1 (w.1 n)))

    -- an option that is clear has its last true value alone, and one that has one value alone is clear and has it last
    clear_value : (i : ℕ) → i < options d → unclear d (names_true d m) i ≡ false → ValueOf d m i (value_of d (names_true d m) i)
    unfolding unclear value_of
    clear_value i h e =
        let w = count_one (has_value d (names_true d m) i) (domain d i) (eqb-true _ 1 (not-false _ e)) in
        record { in_range = w.0; named_true = (true_exactly i _ h w.0).0 w.1; no_other = λ k l n. w.2 k l ((true_exactly i k h l).1 n) }

    value_clear : (i j : ℕ) → i < options d → ValueOf d m i j → (unclear d (names_true d m) i ≡ false) × (value_of d (names_true d m) i ≡ j)
    unfolding unclear value_of
    value_clear i j h v =
        let w = one_count (has_value d (names_true d m) i) (domain d i) j v.in_range ((true_exactly i j h v.in_range).1 v.named_true) (λ k l t. v.no_other k l ((true_exactly i k h l).0 t)) in
        (ap not (eq-eqb _ 1 w.0), w.1)

    pub tests_12 : Tests (first (unclear d (names_true d m)) (options d)) (FirstFailing (options d) (OneValue d m)) ((i : ℕ) → i < options d → OneValue d m i)
    tests_12 =
        tests_each (unclear d (names_true d m)) (OneValue d m) (options d)
        (λ i h e. (value_of d (names_true d m) i, clear_value i h e)) (λ i h e w. true≢false (sym e ∙ (value_clear i w.0 h w.1).0))

    -- ---- the model's build, where each option has one value

    pub build_said : ((i : ℕ) → i < options d → OneValue d m i) → BuildOf d m (build_of d m)
    build_said one =
        record {
          whole = list_singles (options d) (value_of d (names_true d m));
          each = λ i h. let w = one i h in subst (ValueOf d m i) (sym (list_at 0 (value_of d (names_true d m)) (options d) i h ∙ (value_clear i w.0 h w.1).1)) w.1;
        }

  -- where numbers 10 to 12 have passed
  pub values_passed : (last : ℕ) → chain (value_rules d m last) ≡ Ok tt → WellNamed d m last × ((i : ℕ) → i < options d → OneValue d m i)
  unfolding value_rules naming_rules
  values_passed last q =
      let q₁₀ = not_due 10 _ _ q in
      let q₁₁ = not_due 11 _ _ q₁₀.1 in
      let once = tests_11.none.0 q₁₁.0 in
      (record { ranged = (tests_10 last m).none.0 q₁₀.0; named_first = once }, (tests_12 once).none.0 (not_due 12 _ [] q₁₁.1).0)

  -- a model says one build at most, and it fits the diagram
  pub one_build : (a b : List ℕ) → BuildOf d m a → BuildOf d m b → a ≡ b
  one_build a b p q = ext_get_or 0 a b (p.whole ∙ sym q.whole) (λ i h. let l : i < options d = omega (arith, p.whole) in (q.each i l).no_other (chosen a i) (p.each i l).in_range (p.each i l).named_true)

  pub build_fits : (b : List ℕ) → BuildOf d m b → Fits d b
  build_fits b p = record { whole = p.whole; in_domain = λ i h. (p.each i h).in_range }
