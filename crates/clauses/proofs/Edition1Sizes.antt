-- Edition 1's sizes: V, clauses and words of a diagram by the scope's formulas and by sums of its pairs, and how many there
-- can be. Assumes nothing.
use mathlib.Core.Path.{◌≡◌}
use Prim.Native.Nat.{ℕ, zero, suc, ◌+◌, ◌*◌, ◌≤◌, ◌<◌}
use native.Mathlib.Omega.{arith}
use lib.ListN.{length}
use Rattle.lists.specs.Upto.{sum_to}
use Rattle.lists.proofs.UptoLaws.{sum_const, sum_most}
use Rattle.cnf.specs.Clause.{words}
use Rattle.diagram.specs.Lent.{Lent, options, nodes, domain, edges}
use Rattle.diagram.specs.Numbers.{first_value, values}
use Rattle.diagram.specs.Sound.{Shaped}
use Rattle.diagram.proofs.ShapedLaws.{edges_most}
use Rattle.diagram.proofs.NumberLaws.{values_most}
use Rattle.clauses.specs.Variables.{last_edge_variable}
use Rattle.clauses.specs.Clauses.{pair_count, edition1, first_helper, last_variable, clauses}
use Rattle.clauses.proofs.SizeLaws.{clauses_in, words_in}
use Rattle.clauses.proofs.Edition1.{pairs_most, edition1_counts}

-- ---- sums of the formulas' terms

sum_ones : (f : ℕ → ℕ) (n : ℕ) → sum_to n (λ i. 1 + f i) ≡ n + sum_to n f
unfolding sum_to
sum_ones f zero = omega arith
sum_ones f (suc n) = omega (arith, sum_ones f n)

sum_terms : (f g : ℕ → ℕ) (n : ℕ) → sum_to n (λ i. f i + 1 + 3 * g i) ≡ sum_to n f + n + 3 * sum_to n g
unfolding sum_to
sum_terms f g zero = omega arith
sum_terms f g (suc n) = omega (arith, sum_terms f g n)

-- ---- a diagram

module _ (d : Lent) where
  pub clause_count : length (clauses edition1 d) ≡ 3 + nodes d + 4 * edges d + sum_to (options d) (λ i. 1 + pair_count (domain d i))
  clause_count = clauses_in edition1 edition1_counts d

  pub word_count : length (words (clauses edition1 d)) ≡ 6 + 2 * nodes d + 14 * edges d + sum_to (options d) (λ i. domain d i + 1 + 3 * pair_count (domain d i))
  word_count = words_in edition1 edition1_counts d

  -- it has no helpers
  pub last_variable_is : last_variable edition1 d ≡ last_edge_variable d
  unfolding first_helper
  last_variable_is = omega (arith, sum_const 0 (options d))

  -- the same by sums, as code computes them: of the pairs, and of the values

  abbrev pub all_pairs : ℕ
  all_pairs = sum_to (options d) (λ i. pair_count (domain d i))

  pub clauses_by_pairs : length (clauses edition1 d) ≡ 3 + nodes d + 4 * edges d + options d + all_pairs
  clauses_by_pairs = omega (arith, clause_count, sum_ones (λ i. pair_count (domain d i)) (options d))

  pub words_by_pairs : length (words (clauses edition1 d)) ≡ 6 + 2 * nodes d + 14 * edges d + values d + options d + 3 * all_pairs
  unfolding first_value
  words_by_pairs = omega (arith, word_count, sum_terms (domain d) (λ i. pair_count (domain d i)) (options d))

  -- ---- at most

  module _ (s : Shaped d) where
    pairs_of_most : (i : ℕ) → i < options d → pair_count (domain d i) ≤ 496
    pairs_of_most i h = pairs_most (domain d i) (s.domains_fit i h).1

    pub all_pairs_most : all_pairs ≤ 31744
    all_pairs_most = omega (arith, sum_most (λ i. pair_count (domain d i)) 496 (options d) pairs_of_most, s.options_fit)

    pub clauses_most : length (clauses edition1 d) ≤ 560195
    clauses_most = omega (arith, clauses_by_pairs, edges_most d s (nodes d) (omega arith), all_pairs_most, s.options_fit, s.nodes_fit)

    pub words_most : length (words (clauses edition1 d)) ≤ 1940550
    words_most = omega (arith, words_by_pairs, edges_most d s (nodes d) (omega arith), all_pairs_most, values_most d s (options d) (omega arith), s.options_fit, s.nodes_fit)

    pub variables_most : last_variable edition1 d ≤ 137218
    variables_most = omega (arith, last_variable_is, edges_most d s (nodes d) (omega arith), values_most d s (options d) (omega arith), s.nodes_fit)
