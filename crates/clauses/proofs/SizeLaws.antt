-- How many clauses and words a diagram has, by formulas, in any edition whose option clauses are counted. Assumes nothing.
use mathlib.Core.Path.{◌≡◌}
use mathlib.Core.List.{List, ◌++◌}
use Prim.Native.Nat.{ℕ, ◌+◌, ◌*◌}
use native.Mathlib.Omega.{arith}
use lib.ListN.{length, length-append}
use Rattle.lists.specs.Upto.{sum_to, up_to}
use Rattle.lists.proofs.UptoLaws.{sum_same, sum_const, sum_linear, list_length, list_singles}
use Rattle.cnf.specs.Clause.{Clause, plain, words}
use Rattle.cnf.proofs.WordsLaws.{length_more, length_both, length-up_to}
use Rattle.diagram.specs.Lent.{Lent, options, nodes, domain, width, first_edge, edges}
use Rattle.diagram.specs.Numbers.{first_value, values}
use Rattle.clauses.specs.Variables.{node_variable, edge_variable, target_variable, asked_variable}
use Rattle.clauses.specs.Clauses.{Edition, units, t2to5, t1, t1to5, node_clauses, first_helper, option_clauses, clauses}
use Rattle.clauses.specs.Editions.{OptionCounts}

-- ---- a node

module _ (v : ℕ) (f : ℕ → ℕ) (e m x : ℕ → ℕ) (k : ℕ) where
  abbrev edge : ℕ → List Clause
  edge j = t2to5 (e j) v (m j) (x j)

  node_clauses_lem : length (t1to5 v f edge k) ≡ 1 + 4 * k
  node_clauses_lem = omega (arith, list_length edge k, sum_const 4 k)

  node_words : length (words (t1to5 v f edge k)) ≡ 2 + 14 * k
  unfolding words
  node_words = omega (arith, length_more (t1 v f k) (up_to k edge), list_singles k (λ j. plain (f j)), length-up_to k edge, sum_const 13 k)

-- ---- a diagram

module _ (e : Edition) {of_clauses of_words : ℕ → ℕ} (n : OptionCounts e of_clauses of_words) (d : Lent) where
  pub clauses_in : length (clauses e d) ≡ 3 + nodes d + 4 * edges d + sum_to (options d) (λ i. of_clauses (domain d i))
  unfolding clauses first_edge
  clauses_in =
      omega (
        arith,
        length-append (up_to (options d) (option_clauses e d)) (units (values d) ++ up_to (nodes d) (node_clauses d)),
        list_length (option_clauses e d) (options d),
        sum_same (λ i. length (option_clauses e d i)) (λ i. of_clauses (domain d i)) (options d) (λ i h. n.clauses_are (first_value d i) (first_helper e d i) (domain d i)),
        list_length (node_clauses d) (nodes d),
        sum_same (λ v. length (node_clauses d v)) (λ v. 1 + 4 * width d v) (nodes d) (λ v h. node_clauses_lem (node_variable d v) (edge_variable d v) (edge_variable d v) (target_variable d v) (asked_variable d v) (width d v)),
        sum_linear 1 4 (width d) (nodes d),
      )

  pub words_in : length (words (clauses e d)) ≡ 6 + 2 * nodes d + 14 * edges d + sum_to (options d) (λ i. of_words (domain d i))
  unfolding clauses first_edge words
  words_in =
      omega (
        arith,
        length_both (up_to (options d) (option_clauses e d)) (units (values d) ++ up_to (nodes d) (node_clauses d)),
        length_both (units (values d)) (up_to (nodes d) (node_clauses d)),
        length-up_to (options d) (option_clauses e d),
        sum_same (λ i. length (words (option_clauses e d i))) (λ i. of_words (domain d i)) (options d) (λ i h. n.words_are (first_value d i) (first_helper e d i) (domain d i)),
        length-up_to (nodes d) (node_clauses d),
        sum_same (λ v. length (words (node_clauses d v))) (λ v. 2 + 14 * width d v) (nodes d) (λ v h. node_words (node_variable d v) (edge_variable d v) (edge_variable d v) (target_variable d v) (asked_variable d v) (width d v)),
        sum_linear 2 14 (width d) (nodes d),
      )
