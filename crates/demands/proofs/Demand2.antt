-- Demand 2 holds: of whatever `encode` promises, the list; of every diagram as it is lent the counts and the table of
-- variables; of every sound one the maxima and that its words are well formed; and one has as many as there can be.
-- Assumes nothing.
use mathlib.Core.Path.{◌≡◌, refl, ◌∙◌, ap}
use mathlib.Core.List.{List}
use Prim.Native.Nat.{ℕ, ◌+◌, ◌-◌, ◌*◌, ◌/◌, ◌≤◌}
use native.Mathlib.Nat.{mul_assoc}
use native.Mathlib.Omega.{arith}
use lib.ListN.{length}
use lib.IntN.{ℤ}
use Rattle.lists.proofs.UptoLaws.{sum_same}
use Rattle.diagram.specs.Lent.{Lent, options, nodes, domain, first_edge, edges}
use Rattle.diagram.specs.Numbers.{first_value}
use Rattle.diagram.specs.Sound.{Sound}
use Rattle.cnf.specs.Clause.{words}
use Rattle.cnf.specs.declared.EncodeAnswer.{EncodeAnswer}
use Rattle.cnf.proofs.EncodedLaws.{written_list}
use Rattle.clauses.specs.Clauses.{Edition, pair_count, clauses, last_variable}
use Rattle.clauses.specs.Editions.{OwnVariables}
use Rattle.encoding.specs.Promise.{encode_rules, EncodePromise}
use Rattle.clauses.proofs.Edition1.{pair_twice}
use Rattle.clauses.proofs.Edition1Sizes.{clause_count, word_count, last_variable_is, clauses_most, words_most, variables_most}
use Rattle.clauses.proofs.LiteralLaws.{literal_within, closed_list, zeros_list, clauses_back, word_within}
use Rattle.encoding.proofs.EncodeLaws.{encode_written}
use Rattle.demands.specs.Demand2.{ExactlyTheList, Counts, Numbers, Maxima, largest, WellFormed}
use Rattle.demands.proofs.Flat.{Flat, flat_sound, flat_clauses, flat_words, flat_variables}

-- ---- in any edition

pub exactly_the_list : (e : Edition) (d : Lent) (before : List ℤ) (answer : EncodeAnswer) (after : List ℤ) → EncodePromise e d before answer after → Sound d → length (words (clauses e d)) ≤ length before → ExactlyTheList e d before answer after
exactly_the_list e d before answer after p s h =
    let w = (encode_written e d before answer after p _).1 ((s, h), refl) in
    let l = written_list (clauses e d) (last_variable e d) before (encode_rules e d (length before)) answer after p _ w in
    record { answered = w; the_words = l.0; the_rest = l.1 }

pub well_formed : (e : Edition) → OwnVariables e → (d : Lent) → Sound d → WellFormed e d
well_formed e own d s = record { literals = literal_within e d own s; each_word = word_within e d own s; all_closed = closed_list e d; one_zero_each = zeros_list e d own s; told_back = clauses_back e d own s }

pub numbers : (d : Lent) → Numbers d
unfolding first_value first_edge
numbers d = record { value = λ i j. omega arith; reference = λ r. omega arith; edge = λ v j. omega arith }

-- ---- in edition 1

thrice : (k : ℕ) → 3 * pair_count k ≡ 3 * k * (k - 1) / 2
thrice k = rw (mul_assoc 3 k (k - 1)) (omega (arith, pair_twice k))

pub counts : (d : Lent) → Counts d
unfolding first_value first_edge
counts d =
    record {
      last_variable_is = last_variable_is d;
      clause_count = clause_count d;
      word_count = word_count d ∙ ap (λ (n : ℕ). 6 + 2 * nodes d + 14 * edges d + n) (sum_same _ _ (options d) (λ i h. omega (arith, thrice (domain d i))));
    }

pub maxima : (d : Lent) → Sound d → Maxima ◌≤◌ d
maxima d s = record { most_clauses = clauses_most d s.shaped; most_words = words_most d s.shaped; most_variables = variables_most d s.shaped }

pub attained : Sound largest × Maxima (λ n most. n ≡ most) largest
unfolding largest
attained =
    let fits : Flat 64 32 4095 131072 = record { few_options = (omega arith, omega arith); few_values = (omega arith, omega arith); few_nodes = omega arith; all_edges = refl } in
    (flat_sound fits, record { most_clauses = flat_clauses fits; most_words = flat_words fits; most_variables = flat_variables fits })
