-- The numbers of values, references, edges and helpers are the numbers from 1 to V, each of one of them alone: so a setting
-- can be made of what each of them is to be, and what holds of all of them holds of every number. Assumes nothing.
use mathlib.Core.Path.{◌≡◌, sym, ◌∙◌, ap, subst}
use mathlib.Core.Bool.{Bool, false, cond}
use mathlib.Core.Logic.{⊎_elim}
use Prim.Native.Nat.{ℕ, zero, suc, ◌+◌, ◌-◌, ◌≤◌, ◌<◌}
use native.Mathlib.Omega.{arith}
use lib.Dec.{ltb, leb}
use borrow.Author.Tests.{lt-ltb, le-ltb}
use Rattle.lists.specs.Upto.{sum_to, last_to}
use Rattle.lists.proofs.UptoLaws.{Sums, sums, sum_within, sum_split, last_term, below_or_not}
use Rattle.cnf.specs.Clause.{Setting}
use Rattle.diagram.specs.Lent.{Lent, options, nodes, domain, width, first_edge, edges}
use Rattle.diagram.specs.Numbers.{first_value, values}
use Rattle.diagram.specs.Sound.{Within}
use Rattle.diagram.proofs.ShapedLaws.{edge_sums}
use Rattle.diagram.proofs.NumberLaws.{value_sums}
use Rattle.clauses.specs.Variables.{value_variable, reference_variable, edge_variable, last_edge_variable}
use Rattle.clauses.specs.Clauses.{Edition, helper_number, first_helper, last_variable}

-- entry u of those that stand one after the other, f k of them for each k, where g k gives the k-th lot
abbrev entry : (ℕ → ℕ) → ℕ → (ℕ → ℕ → Bool) → ℕ → Bool
entry total n g u = let k = last_to n (λ k. leb (total k) u) in g k (u - total k)

entry_at : {f total : ℕ → ℕ} → Sums f total → (n : ℕ) (g : ℕ → ℕ → Bool) (i a : ℕ) → i < n → a < f i → entry total n g (total i + a) ≡ g i a
entry_at {f} {total} s n g i a h l = rw (last_term s n i (total i + a) h (omega arith) (omega arith)) (ap (g i) (omega arith))

-- n truth values by f, and after them those of g
abbrev beside : ℕ → (ℕ → Bool) → (ℕ → Bool) → ℕ → Bool
beside n f g u = cond (ltb u n) (f u) (g (u - n))

beside_first : (n : ℕ) (f g : ℕ → Bool) (u : ℕ) → u < n → beside n f g u ≡ f u
beside_first n f g u h = rw (lt-ltb u n h)

beside_then : (n : ℕ) (f g : ℕ → Bool) (u : ℕ) → beside n f g (n + u) ≡ g u
beside_then n f g u = rw (le-ltb (n + u) n (omega arith)) (ap g (omega arith))

-- ---- each of them is a number from 1 to V

module _ (e : Edition) (d : Lent) where
  pub value_within : (i j : ℕ) → i < options d → j < domain d i → Within 1 (last_variable e d) (value_variable d i j)
  unfolding first_helper
  value_within i j h l = (omega arith, omega (arith, (value_sums d).room i (options d) h))

  pub reference_within : (r : ℕ) → r < nodes d + 2 → Within 1 (last_variable e d) (reference_variable d r)
  unfolding first_helper
  reference_within r h = (omega arith, omega arith)

  pub edge_within : (v j : ℕ) → v < nodes d → j < width d v → Within 1 (last_variable e d) (edge_variable d v j)
  unfolding first_helper
  edge_within v j h l = (omega arith, omega (arith, (edge_sums d).room v (nodes d) h))

  pub helper_within : (i t : ℕ) → i < options d → t < e.helpers (domain d i) → Within 1 (last_variable e d) (helper_number (first_helper e d i) t)
  unfolding first_helper
  helper_within i t h l = (omega arith, omega (arith, sum_within (λ i. e.helpers (domain d i)) i (options d) t h l))

-- ---- a setting made of what each value, reference, edge and helper is to be

module _ (e : Edition) (d : Lent) (value : ℕ → ℕ → Bool) (reference : ℕ → Bool) (edge helper : ℕ → ℕ → Bool) where
  abbrev helper_sum : ℕ → ℕ
  helper_sum n = sum_to n (λ i. e.helpers (domain d i))

  abbrev value_at : ℕ → Bool
  value_at = entry (first_value d) (options d) value

  abbrev edge_at : ℕ → Bool
  edge_at = entry (first_edge d) (nodes d) edge

  abbrev helper_at : ℕ → Bool
  helper_at = entry helper_sum (options d) helper

  abbrev after_references : ℕ → Bool
  after_references = beside (edges d) edge_at helper_at

  abbrev after_values : ℕ → Bool
  after_values = beside (nodes d + 2) reference after_references

  abbrev below : ℕ → Bool
  below = beside (values d) value_at after_values

  unfoldable pub setting_of : Setting
  setting_of zero = false
  setting_of (suc u) = below u

  pub of_value : (i j : ℕ) → i < options d → j < domain d i → setting_of (value_variable d i j) ≡ value i j
  unfolding setting_of
  of_value i j h l =
      beside_first (values d) value_at after_values (first_value d i + j) (omega (arith, (value_sums d).room i (options d) h))
      ∙ entry_at (value_sums d) (options d) value i j h l

  pub of_reference : (r : ℕ) → r < nodes d + 2 → setting_of (reference_variable d r) ≡ reference r
  unfolding setting_of
  of_reference r h = beside_then (values d) value_at after_values r ∙ beside_first (nodes d + 2) reference after_references r h

  pub of_edge : (v j : ℕ) → v < nodes d → j < width d v → setting_of (edge_variable d v j) ≡ edge v j
  unfolding setting_of
  of_edge v j h l =
      ap below (let q : values d + nodes d + 2 + (first_edge d v + j) ≡ values d + (nodes d + 2 + (first_edge d v + j)) = omega arith in q)
      ∙ beside_then (values d) value_at after_values (nodes d + 2 + (first_edge d v + j))
      ∙ beside_then (nodes d + 2) reference after_references (first_edge d v + j)
      ∙ beside_first (edges d) edge_at helper_at (first_edge d v + j) (omega (arith, (edge_sums d).room v (nodes d) h))
      ∙ entry_at (edge_sums d) (nodes d) edge v j h l

  pub of_helper : (i t : ℕ) → i < options d → t < e.helpers (domain d i) → setting_of (helper_number (first_helper e d i) t) ≡ helper i t
  unfolding setting_of first_helper
  of_helper i t h l =
      ap below (let q : last_edge_variable d + helper_sum i + t ≡ values d + (nodes d + 2 + (edges d + (helper_sum i + t))) = omega arith in q)
      ∙ beside_then (values d) value_at after_values (nodes d + 2 + (edges d + (helper_sum i + t)))
      ∙ beside_then (nodes d + 2) reference after_references (edges d + (helper_sum i + t))
      ∙ beside_then (edges d) edge_at helper_at (helper_sum i + t)
      ∙ entry_at (sums (λ i. e.helpers (domain d i))) (options d) helper i t h l

-- ---- what holds at each value, reference, edge and helper

module _ (e : Edition) (d : Lent) (P : ℕ → Type 0)
    (at_value : (i j : ℕ) → i < options d → j < domain d i → P (value_variable d i j))
    (at-reference : (r : ℕ) → r < nodes d + 2 → P (reference_variable d r))
    (at_edge : (v j : ℕ) → v < nodes d → j < width d v → P (edge_variable d v j))
    (at-helper : (i t : ℕ) → i < options d → t < e.helpers (domain d i) → P (helper_number (first_helper e d i) t)) where
  value_number_lem : (u : ℕ) → u < values d → P (suc u)
  unfolding first_value
  value_number_lem u l = let t = sum_split (domain d) (options d) u l in subst (λ (u : ℕ). P (suc u)) (sym t.4) (at_value t.0 t.1 t.2 t.3)

  reference_number_lem : (u : ℕ) → values d ≤ u → u < values d + nodes d + 2 → P (suc u)
  reference_number_lem u l k = let q : values d + (u - values d) ≡ u = omega arith in subst (λ (u : ℕ). P (suc u)) q (at-reference (u - values d) (omega arith))

  edge_number_lem : (u : ℕ) → values d + nodes d + 2 ≤ u → u < last_edge_variable d → P (suc u)
  unfolding first_edge
  edge_number_lem u l k =
      let t = sum_split (width d) (nodes d) (u - (values d + nodes d + 2)) (omega arith) in
      let q : values d + nodes d + 2 + (sum_to t.0 (width d) + t.1) ≡ u = omega (arith, t.4) in
      subst (λ (u : ℕ). P (suc u)) q (at_edge t.0 t.1 t.2 t.3)

  helper_number_lem : (u : ℕ) → last_edge_variable d ≤ u → u < last_variable e d → P (suc u)
  unfolding first_helper
  helper_number_lem u l k =
      let t = sum_split (λ i. e.helpers (domain d i)) (options d) (u - last_edge_variable d) (omega arith) in
      let q : last_edge_variable d + sum_to t.0 (λ i. e.helpers (domain d i)) + t.1 ≡ u = omega (arith, t.4) in
      subst (λ (u : ℕ). P (suc u)) q (at-helper t.0 t.1 t.2 t.3)

  pub every_variable : (n : ℕ) → 1 ≤ n → n ≤ last_variable e d → P n
  every_variable zero l k = absurd (omega arith)
  every_variable (suc u) l k =
      ⊎_elim (value_number_lem u) (λ (a : values d ≤ u).
      ⊎_elim (reference_number_lem u a) (λ (b : values d + nodes d + 2 ≤ u).
      ⊎_elim (edge_number_lem u b) (λ (c : last_edge_variable d ≤ u). helper_number_lem u c (omega arith))
      (below_or_not u (last_edge_variable d))) (below_or_not u (values d + nodes d + 2))) (below_or_not u (values d))
