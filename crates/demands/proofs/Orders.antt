-- The propagation half, in its partial form, for every list of clauses that has the common part: where no allowed build
-- fits an order, propagation from the order's literals conflicts; and a whole build is an order. Assumes nothing.
use mathlib.Core.Path.{◌≡◌, refl, sym, ◌∙◌, ap}
use mathlib.Core.Logic.{◌⊎◌, inl, inr, ⊎_elim}
use mathlib.Core.Bool.{true, false, true≢false}
use mathlib.Core.List.{List}
use Prim.Native.Nat.{ℕ, ◌<◌}
use native.Mathlib.Decide.{ℕ_discrete}
use lib.IntN.{ℤ}
use lib.Dec.{eqb}
use borrow.Author.Tests.{eqb-true, eq-eqb}
use Rattle.lists.proofs.UptoLaws.{decide, either}
use Rattle.cnf.specs.Clause.{Clause, plain, negated, Reached, given, Conflict}
use Rattle.cnf.proofs.Propagation.{conflict_more}
use Rattle.diagram.specs.Lent.{Lent, options, domain, Allows, Build}
use Rattle.diagram.specs.Numbers.{first_value}
use Rattle.diagram.proofs.AllowsLaws.{Ranked, end_agrees, root_later}
use Rattle.clauses.specs.Variables.{value_variable}
use Rattle.clauses.specs.Clauses.{Edition, first_helper}
use Rattle.clauses.specs.Editions.{ExactlyOne}
use Rattle.clauses.proofs.ExactlyOneLaws.{rules_out_in}
use Rattle.clauses.proofs.Common.{Common}
use Rattle.clauses.proofs.OpenValues.{Takes, open_conflict}
use Rattle.demands.specs.Demand3.{BuildLiteral}
use Rattle.demands.specs.HalfFinished.{Order, OrderLiteral, literal_in, literal_out, FitsOrder}

-- a value is open: it is not ruled out, and no other one of its option is ruled in
abbrev Open : Lent → Order → ℕ → ℕ → Type 0
Open d o i j = (o.ruled_out i j ≡ false) × ((k : ℕ) → k < domain d i → o.ruled_in i k ≡ true → k ≡ j)

takes_fits : (d : Lent) (o : Order) (x : ℕ → ℕ) → Takes d (Open d o) x → FitsOrder d o x
takes_fits d o x f = record { keeps_in = λ i j h hj. (f i h).1.1 j hj; keeps_out = λ i h. (f i h).1.0 }

-- the order of a whole build: its values are ruled in
abbrev whole : (ℕ → ℕ) → Order
whole x = record { ruled_in = λ i j. eqb j (x i); ruled_out = λ i j. false }

whole_build : (d : Lent) (x : ℕ → ℕ) (l : ℤ) → OrderLiteral d (whole x) l → BuildLiteral d x l
whole_build d x l (literal_in i j h hj p q) = record { option = i; there = h; names = q ∙ ap (λ (j : ℕ). plain (value_variable d i j)) (eqb-true j (x i) p) }
whole_build d x l (literal_out i j h hj p q) = absurd (true≢false (sym p))

module _ (e : Edition) (one : ExactlyOne e) (d : Lent) (ok : Ranked d) (cs : List Clause) (has : Common e d cs) where
  pub order_conflict : (o : Order) → ((x : ℕ → ℕ) → Build d x → FitsOrder d o x → Allows d x → ⊥) → Conflict (OrderLiteral d o) cs
  order_conflict o none = open_conflict e one d ok cs has (OrderLiteral d o) (Open d o) open_or_out (λ x f. none x (λ i h. (f i h).0) (takes_fits d o x f))
    where
      Out : ℕ → ℕ → Type 0
      Out i j = Reached (OrderLiteral d o) cs (negated (value_variable d i j))

      -- another value of the option is ruled in, and rules this one out; or it is not
      beside : (i j : ℕ) → i < options d → j < domain d i → (k : ℕ) → k < domain d i → Out i j ⊎ (o.ruled_in i k ≡ true → k ≡ j)
      beside i j h hj k hk = go (ℕ_discrete j k) (decide (o.ruled_in i k))
        where
          go : Dec (j ≡ k) → (o.ruled_in i k ≡ true) ⊎ (o.ruled_in i k ≡ false) → Out i j ⊎ (o.ruled_in i k ≡ true → k ≡ j)
          go (yes q) c = inr (λ p. sym q)
          go (no n) (inl p) = inl (rules_out_in one (first_value d i) (first_helper e d i) (domain d i) (has.has_option i h) j k hj hk n (given (literal_in i k h hk p refl)))
          go (no n) (inr p) = inr (λ q. absurd (true≢false (sym q ∙ p)))

      open_or_out : (i j : ℕ) → i < options d → j < domain d i → Open d o i j ⊎ Out i j
      open_or_out i j h hj = ⊎_elim
          (λ (p : o.ruled_out i j ≡ true). inr (given (literal_out i j h hj p refl)))
          (λ (p : o.ruled_out i j ≡ false). ⊎_elim (λ (r : Out i j). inr r) (λ f. inl (p, f)) (either (λ k. o.ruled_in i k ≡ true → k ≡ j) (domain d i) (beside i j h hj)))
          (decide (o.ruled_out i j))

  -- a whole build is an order that it alone fits
  pub build_conflict : (x : ℕ → ℕ) → Build d x → (Allows d x → ⊥) → Conflict (BuildLiteral d x) cs
  build_conflict x b n = conflict_more (whole_build d x) (λ c m. m) (order_conflict (whole x) none)
    where
      none : (y : ℕ → ℕ) → Build d y → FitsOrder d (whole x) y → Allows d y → ⊥
      none y c f a = n (end_agrees d ok x b y 0 2 (root_later d ok) (λ i p h. f.keeps_in i (x i) h (b i h) (eq-eqb (x i) (x i) refl)) ∙ a)
