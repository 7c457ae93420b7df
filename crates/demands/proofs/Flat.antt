-- A flat diagram is sound, and what its counts are, without going through its lists. Assumes nothing.
use mathlib.Core.Path.{◌≡◌, refl, sym, ◌∙◌, ap, subst}
use mathlib.Core.List.{◌∷◌}
use Prim.Native.Nat.{ℕ, zero, suc, ◌+◌, ◌-◌, ◌*◌, ◌≤◌, ◌<◌}
use native.Mathlib.Omega.{arith}
use lib.ListN.{length, get_or, replicate, length-replicate, get_or-replicate}
use Rattle.lists.specs.Upto.{sum_to}
use Rattle.lists.proofs.UptoLaws.{sum_same, sum_const}
use Rattle.cnf.specs.Clause.{words}
use Rattle.diagram.specs.Lent.{Lent, lent, options, nodes, domain, layer, width, first_edge, edges}
use Rattle.diagram.specs.Numbers.{first_value, values}
use Rattle.diagram.specs.Sound.{Within, LayerFits, Permitted, to_false, Sound}
use Rattle.clauses.specs.Clauses.{pair_count, edition1, clauses, last_variable}
use Rattle.clauses.proofs.Edition1Sizes.{last_variable_is, clauses_by_pairs, words_by_pairs}

sum_equal : (f : ℕ → ℕ) (c n m : ℕ) → n ≡ m → ((i : ℕ) → i < n → f i ≡ c) → sum_to n f ≡ c * m
sum_equal f c n m e h = sum_same f (λ i. c) n h ∙ sum_const c n ∙ ap (λ (l : ℕ). c * l) e

same_at : (t i a : ℕ) → get_or (replicate t a) i a ≡ a
same_at zero i a = refl
same_at (suc t) zero a = refl
same_at (suc t) (suc i) a = same_at t i a

-- n options of k values, a root and s nodes of layer 2, and t edges, each to F
pub record Flat (n k s t : ℕ) : Type 0 where
  pub few_options : Within 2 64 n
  pub few_values : Within 1 32 k
  pub few_nodes : s ≤ 4095
  pub all_edges : t ≡ k * suc s

module _ {n k s t : ℕ} (fits : Flat n k s t) where
  abbrev pub flat : Lent
  flat = lent (replicate n k) (1 ∷ replicate s 2) (replicate t 0)

  options_are : options flat ≡ n
  options_are = length-replicate n k

  nodes_are : nodes flat ≡ suc s
  nodes_are = ap suc (length-replicate s 2)

  domain_is : (i : ℕ) → i < n → domain flat i ≡ k
  domain_is i h = get_or-replicate n i k 0 h

  layer_is : (v : ℕ) → suc v < nodes flat → layer flat (suc v) ≡ 2
  layer_is v h = get_or-replicate s v 2 0 (omega (arith, nodes_are))

  layer_most : (v : ℕ) → v < nodes flat → layer flat v ≤ 2
  layer_most zero h = omega arith
  layer_most (suc v) h = omega (arith, layer_is v h)

  pairs_are : sum_to (options flat) (λ i. pair_count (domain flat i)) ≡ pair_count k * n
  pairs_are = sum_equal (λ i. pair_count (domain flat i)) (pair_count k) (options flat) n options_are (λ i h. ap pair_count (domain_is i (omega (arith, options_are))))

  values_are : values flat ≡ k * n
  unfolding first_value
  values_are = sum_equal (domain flat) k (options flat) n options_are (λ i h. domain_is i (omega (arith, options_are)))

  width_is : (v : ℕ) → v < nodes flat → width flat v ≡ k
  width_is zero h = domain_is 0 (omega (arith, fits.few_options))
  width_is (suc v) h = ap (λ (l : ℕ). domain flat (l - 1)) (layer_is v h) ∙ domain_is 1 (omega (arith, fits.few_options))

  edges_are : edges flat ≡ k * suc s
  unfolding first_edge
  edges_are = sum_equal (width flat) k (nodes flat) (suc s) nodes_are width_is

  layer_fits : (v : ℕ) → v < nodes flat → LayerFits flat v
  layer_fits zero h = record { root = λ _. refl; later = λ l. absurd (omega arith); rising = λ l. absurd (omega arith) }
  layer_fits (suc v) h =
      let e : suc v - 1 ≡ v = omega arith in
      record {
        root = λ z. absurd (omega arith);
        later = λ _. (omega (arith, layer_is v h), omega (arith, layer_is v h, options_are, fits.few_options));
        rising = λ _. rw e (omega (arith, layer_is v h, layer_most v (omega arith)));
      }

  pub flat_sound : Sound flat
  flat_sound =
      record {
        shaped =
            record {
              options_fit = (omega (arith, options_are, fits.few_options), omega (arith, options_are, fits.few_options));
              domains_fit = λ i h. subst (Within 1 32) (sym (domain_is i (omega (arith, options_are)))) fits.few_values;
              nodes_fit = (omega (arith, nodes_are), omega (arith, nodes_are, fits.few_nodes));
              layers_fit = layer_fits;
            };
        counted = length-replicate t 0 ∙ fits.all_edges ∙ sym edges_are;
        permitted = λ v j h l. subst (Permitted flat (layer flat v)) (sym (same_at t (first_edge flat v + j) 0)) to_false;
      }

  pub flat_clauses : length (clauses edition1 flat) ≡ 3 + suc s + 4 * (k * suc s) + n + pair_count k * n
  flat_clauses = omega (arith, clauses_by_pairs flat, nodes_are, edges_are, options_are, pairs_are)

  pub flat_words : length (words (clauses edition1 flat)) ≡ 6 + 2 * suc s + 14 * (k * suc s) + k * n + n + 3 * (pair_count k * n)
  flat_words = omega (arith, words_by_pairs flat, nodes_are, edges_are, values_are, options_are, pairs_are)

  pub flat_variables : last_variable edition1 flat ≡ k * n + suc s + 2 + k * suc s
  flat_variables = omega (arith, last_variable_is flat, nodes_are, edges_are, values_are)
