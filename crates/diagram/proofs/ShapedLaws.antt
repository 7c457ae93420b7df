-- What the tests of the domains and the layers mean, and what follows once they have passed. Assumes nothing.
use Rattle.std.specs.Prelude.{Ok}
use mathlib.Core.Path.{◌≡◌, refl, sym}
use mathlib.Core.Bool.{Bool, true, false, not, cond, ◌||◌}
use mathlib.Core.List.{List, []}
use mathlib.Core.Logic.{◌⊎◌, inl, inr, ⊎_elim}
use Prim.Native.Nat.{ℕ, zero, suc, ◌-◌, ◌≤◌, ◌<◌}
use native.Mathlib.Nat.{le_refl, eq-or-lt_of_le}
use native.Mathlib.Numerals.{unary_clauses}
use native.Mathlib.Omega.{arith}
use lib.Dec.{ltb, eqb}
use borrow.Author.Tests.{ltb-true, ltb-false, eqb-true, eqb-false, not-true, not-false}
use Rattle.lists.specs.First.{found_if, first, FirstFailing}
use Rattle.lists.proofs.UptoLaws.{both_false, Sums, sums, sum_most}
use Rattle.lists.proofs.FirstLaws.{Tests, tests_one, tests_each}
use Rattle.refusal.specs.Rules.{chain}
use Rattle.refusal.proofs.RulesLaws.{not_due}
use Rattle.diagram.specs.Lent.{Lent, lent, options, nodes, domain, layer, asked, width, first_edge}
use Rattle.diagram.specs.Sound.{Within, Rising, OptionsFit, DomainFits, NodesFit, LayerFits, Shaped}
use Rattle.diagram.specs.Rules.{outside, bad_domain, bad_layer, option_rules, node_rules}

-- ---- tests

or_true : (a b : Bool) → (a || b) ≡ true → (a ≡ true) ⊎ (b ≡ true)
or_true false b e = inr e
or_true true b e = inl refl

pub inside : (low high x : ℕ) → outside low high x ≡ false → Within low high x
inside low high x e = let w = both_false (ltb x low) (ltb high x) e in (ltb-false x low w.0, ltb-false high x w.1)

pub not_inside : (low high x : ℕ) → outside low high x ≡ true → Within low high x → ⊥
not_inside low high x e h =
    let a : low ≤ x = h.0 in
    let b : x ≤ high = h.1 in
    ⊎_elim (λ (l : ltb x low ≡ true). omega (arith, ltb-true x low l)) (λ (l : ltb high x ≡ true). omega (arith, ltb-true high x l)) (or_true (ltb x low) (ltb high x) e)

tests_within : (low high x : ℕ) → Tests (found_if (outside low high x) 0) (λ p. (p ≡ 0) × (Within low high x → ⊥)) (Within low high x)
tests_within low high x = tests_one (outside low high x) _ (inside low high x) (not_inside low high x)

module _ (d : Lent) where
  layer_good : (v : ℕ) → bad_layer d v ≡ false → LayerFits d v
  unfolding bad_layer
  layer_good v e = go (eqb v 0) refl e
    where
      go : (b : Bool) → eqb v 0 ≡ b → cond b (not (eqb (layer d v) 1)) (outside 2 (options d) (layer d v) || ltb (layer d v) (layer d (v - 1))) ≡ false → LayerFits d v
      go true q e =
          let z = eqb-true v 0 q in
          record { root = λ _. eqb-true (layer d v) 1 (not-false (eqb (layer d v) 1) e); later = λ h. absurd (omega arith); rising = λ h. absurd (omega arith) }
      go false q e =
          let w = both_false (outside 2 (options d) (layer d v)) (ltb (layer d v) (layer d (v - 1))) e in
          record {
            root = λ z. absurd (eqb-false v 0 q z);
            later = λ h. inside 2 (options d) (layer d v) w.0;
            rising = λ h. ltb-false (layer d v) (layer d (v - 1)) w.1;
          }

  layer_not_good : (v : ℕ) → bad_layer d v ≡ true → LayerFits d v → ⊥
  unfolding bad_layer
  layer_not_good v e f = go (eqb v 0) refl e
    where
      go : (b : Bool) → eqb v 0 ≡ b → cond b (not (eqb (layer d v) 1)) (outside 2 (options d) (layer d v) || ltb (layer d v) (layer d (v - 1))) ≡ true → ⊥
      go true q e = eqb-false (layer d v) 1 (not-true (eqb (layer d v) 1) e) (f.root (eqb-true v 0 q))
      go false q e = ⊎_elim low fall (or_true (outside 2 (options d) (layer d v)) (ltb (layer d v) (layer d (v - 1))) e)
        where
          h : 0 < v
          h = ⊎_elim (λ (z : 0 ≡ v). absurd (eqb-false v 0 q (sym z))) (λ l. l) (eq-or-lt_of_le (let z : 0 ≤ v = omega arith in z))

          low : outside 2 (options d) (layer d v) ≡ true → ⊥
          low e = not_inside 2 (options d) (layer d v) e (f.later h)

          fall : ltb (layer d v) (layer d (v - 1)) ≡ true → ⊥
          fall e = omega (arith, ltb-true (layer d v) (layer d (v - 1)) e, f.rising h)

  -- numbers 1 to 4: what each test is for
  pub tests_1 : Tests (found_if (outside 1 64 (options d)) 0) (λ p. (p ≡ 0) × (OptionsFit d → ⊥)) (OptionsFit d)
  tests_1 = tests_within 1 64 (options d)

  pub tests_2 : Tests (first (bad_domain d) (options d)) (FirstFailing (options d) (DomainFits d)) ((i : ℕ) → i < options d → DomainFits d i)
  tests_2 = tests_each (bad_domain d) (DomainFits d) (options d) (λ i _. inside 1 32 (domain d i)) (λ i _. not_inside 1 32 (domain d i))

  pub tests_3 : Tests (found_if (outside 1 4096 (nodes d)) 0) (λ p. (p ≡ 0) × (NodesFit d → ⊥)) (NodesFit d)
  tests_3 = tests_within 1 4096 (nodes d)

  pub tests_4 : Tests (first (bad_layer d) (nodes d)) (FirstFailing (nodes d) (LayerFits d)) ((v : ℕ) → v < nodes d → LayerFits d v)
  tests_4 = tests_each (bad_layer d) (LayerFits d) (nodes d) (λ v _. layer_good v) (λ v _. layer_not_good v)

  -- the rules 1 to 4 have passed
  pub shaped : chain (option_rules d) ≡ Ok tt → chain (node_rules d) ≡ Ok tt → Shaped d
  unfolding option_rules node_rules
  shaped o n =
      let o₁ = not_due 1 (found_if (outside 1 64 (options d)) 0) _ o in
      let o₂ = not_due 2 (first (bad_domain d) (options d)) [] o₁.1 in
      let n₁ = not_due 3 (found_if (outside 1 4096 (nodes d)) 0) _ n in
      let n₂ = not_due 4 (first (bad_layer d) (nodes d)) [] n₁.1 in
      record {
        options_fit = tests_1.none.0 o₁.0;
        domains_fit = tests_2.none.0 o₂.0;
        nodes_fit = tests_3.none.0 n₁.0;
        layers_fit = tests_4.none.0 n₂.0;
      }

  -- ---- what follows

  -- edges before a node: none before the first, then each node's
  pub edge_sums : Sums (width d) (first_edge d)
  unfolding first_edge
  edge_sums = sums (width d)

  module _ (s : Shaped d) where
    -- a node's layer is that of an option
    pub layer_within : (v : ℕ) → v < nodes d → Within 1 (options d) (layer d v)
    layer_within v h = go (eq-or-lt_of_le (let z : 0 ≤ v = omega arith in z))
      where
        go : (0 ≡ v) ⊎ (0 < v) → Within 1 (options d) (layer d v)
        go (inl e) = let q = (s.layers_fit v h).root (sym e) in (omega arith, omega (arith, s.options_fit))
        go (inr l) = let q = (s.layers_fit v h).later l in (omega arith, q.1)

    pub asked_in : (v : ℕ) → v < nodes d → asked d v < options d
    asked_in v h = omega (arith, layer_within v h)

    pub width_within : (v : ℕ) → v < nodes d → Within 1 32 (width d v)
    width_within v h = s.domains_fit (asked d v) (asked_in v h)

    -- layers never fall
    pub layers_rise : Rising d.layers
    layers_rise u zero h l = let e : u ≡ 0 = omega arith in rw e (le_refl _)
    layers_rise u (suc v) h l = go (eq-or-lt_of_le h) (λ k. layers_rise u v k (omega arith))
      where
        go : (u ≡ suc v) ⊎ (u < suc v) → (u ≤ v → layer d u ≤ layer d v) → layer d u ≤ layer d (suc v)
        go (inl e) r = rw e (le_refl _)
        go (inr k) r =
            let q : layer d v ≤ layer d (suc v) = simp unary_clauses at ((s.layers_fit (suc v) l).rising (omega arith)) in
            omega (arith, r (omega arith))

    pub edges_most : (v : ℕ) → v ≤ nodes d → first_edge d v ≤ 131072
    unfolding first_edge
    edges_most v h = omega (arith, sum_most (width d) 32 v (λ k l. (width_within k (omega arith)).1), s.nodes_fit)

-- the targets have no part in the shape
pub reshaped : (ds ls ts us : List ℕ) → Shaped (lent ds ls ts) → Shaped (lent ds ls us)
reshaped ds ls ts us s =
    record {
      options_fit = s.options_fit;
      domains_fit = s.domains_fit;
      nodes_fit = s.nodes_fit;
      layers_fit = λ v h. let f = s.layers_fit v h in record { root = f.root; later = f.later; rising = f.rising };
    }

pub same_edges : (ds ls ts us : List ℕ) (v : ℕ) → first_edge (lent ds ls ts) v ≡ first_edge (lent ds ls us) v
unfolding first_edge
same_edges ds ls ts us v = refl
