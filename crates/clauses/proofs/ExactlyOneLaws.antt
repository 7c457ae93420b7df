-- "Exactly one" wherever an option's clauses stand; and from propagation alone, that a setting which satisfies them makes
-- one value true and no other. Assumes nothing.
use mathlib.Core.Path.{◌≡◌, sym, ◌∙◌, ap, subst}
use mathlib.Core.Logic.{⊎_elim}
use mathlib.Core.Bool.{true, false, not}
use mathlib.Core.List.{List}
use Prim.Native.Nat.{ℕ, ◌+◌, ◌<◌}
use native.Mathlib.Decide.{ℕ_discrete}
use lib.Dec.{eqb}
use lib.IntN.{ℤ}
use borrow.Author.Tests.{eq-eqb, ne_eqb}
use Rattle.lists.specs.Upto.{last_to}
use Rattle.lists.proofs.UptoLaws.{last_is}
use Rattle.cnf.specs.Clause.{Clause, plain, negated, Setting, holds, Satisfies, Among, Reached, Conflict}
use Rattle.cnf.proofs.Propagation.{said, reached_holds, no_conflict, reached_through, conflict_through}
use Rattle.diagram.specs.Numbers.{value_number}
use Rattle.clauses.specs.Clauses.{Edition}
use Rattle.clauses.specs.Editions.{OneIn, AllOut, ExactlyOne}

-- ---- in any list of clauses that has them, from any given literals

module _ {e : Edition} (one : ExactlyOne e) (b h k : ℕ) {Given : ℤ → Type 0} {cs : List Clause} (among : Among (e.option b h k) cs) where
  pub rules_out_in : (i j : ℕ) → i < k → j < k → (i ≡ j → ⊥) → Reached Given cs (plain (value_number b j)) → Reached Given cs (negated (value_number b i))
  rules_out_in i j hi hj n r = reached_through (λ l q. subst (Reached Given cs) (sym q) r) among (one.rules_out b h k i j hi hj n)

  pub conflicts_in : ((j : ℕ) → j < k → Reached Given cs (negated (value_number b j))) → Conflict Given cs
  conflicts_in f = conflict_through (λ l t. subst (Reached Given cs) (sym t.2) (f t.0 t.1)) among (one.conflicts b h k)

-- ---- a setting that satisfies clauses with such a propagation

module _ (b k : ℕ) (cs : List Clause) (conflicts : Conflict (AllOut b k) cs) (rules_out : (i j : ℕ) → i < k → j < k → (i ≡ j → ⊥) → Reached (OneIn b j) cs (negated (value_number b i))) (σ : Setting) (s : Satisfies σ cs) where
  no_second : (i j : ℕ) → i < k → j < k → (i ≡ j → ⊥) → σ (value_number b j) ≡ true → σ (value_number b i) ≡ false
  no_second i j hi hj n p = said σ false (b + i) (reached_holds σ s (λ l q. subst (λ (m : ℤ). holds σ m ≡ true) (sym q) p) (rules_out i j hi hj n))

  -- the last value that is true
  abbrev last : ℕ
  last = last_to k (λ j. σ (value_number b j))

  some : (last < k) × (σ (value_number b last) ≡ true)
  some = ⊎_elim (λ r. r) none (last_is (λ j. σ (value_number b j)) k)
    where
      none : ((j : ℕ) → j < k → σ (value_number b j) ≡ false) → (last < k) × (σ (value_number b last) ≡ true)
      none f = absurd (no_conflict σ s (λ l t. subst (λ (m : ℤ). holds σ m ≡ true) (sym t.2) (ap not (f t.0 t.1))) conflicts)

  pub one_value : (j : ℕ) × (j < k) × ((i : ℕ) → i < k → σ (value_number b i) ≡ eqb i j)
  one_value = (last, some.0, λ i hi. go i hi (ℕ_discrete i last))
    where
      go : (i : ℕ) → i < k → Dec (i ≡ last) → σ (value_number b i) ≡ eqb i last
      go i hi (yes q) = ap (λ (i : ℕ). σ (value_number b i)) q ∙ some.1 ∙ sym (eq-eqb i last q)
      go i hi (no n) = no_second i last hi some.0 n some.1 ∙ sym (ne_eqb i last n)
