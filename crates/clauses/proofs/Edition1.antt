-- Edition 1: all values and then the pairs are "exactly one", speak of their own variables, and are counted. Assumes nothing.
use mathlib.Core.Path.{◌≡◌, refl, sym, ◌∙◌, ap, subst}
use mathlib.Core.Logic.{◌⊎◌, inl, inr}
use mathlib.Core.Bool.{false, not}
use mathlib.Core.List.Memᴰ
use mathlib.Core.List.{List, [], ◌∷◌, Memᴰ}
use Prim.Native.Nat.{ℕ, zero, suc, ◌+◌, ◌-◌, ◌*◌, ◌≤◌, ◌<◌}
use native.Mathlib.Nat.{not-suc-le-zero, mul-le-mul}
use native.Mathlib.Decide.{ℕ_discrete}
use native.Mathlib.Omega.{arith}
use lib.IntN.{nat_abs}
use lib.ListN.{length}
use lib.Dec.{eqb}
use borrow.Author.Tests.{ne_eqb}
use Rattle.lists.specs.Upto.{sum_to}
use Rattle.lists.proofs.UptoLaws.{below_or_above, sum_same, sum_const, sum_linear, list_length, list_singles, in_list, of_list}
use Rattle.lists.proofs.EveryLaws.{every_more, every_up_to, each_every}
use Rattle.cnf.specs.Clause.{Clause, plain, negated, words, Setting, Held, Satisfies, Among, Reached, given, Conflict}
use Rattle.cnf.proofs.Propagation.{held_first, held_second, first_reached, second_reached}
use Rattle.cnf.proofs.WordsLaws.{length_more, length-up_to, length_each}
use Rattle.diagram.specs.Numbers.{value_number}
use Rattle.clauses.specs.Clauses.{all_values, pair, pairs_after, pairs, pair_count, pairwise, edition1}
use Rattle.clauses.specs.Editions.{OneIn, AllOut, ExactlyOne, Literals, Own, own_value, OwnVariables, OptionCounts}
use Rattle.clauses.proofs.ExactlyOneLaws.{one_value}
use Rattle.clauses.proofs.OneOf.{one_of_literals, values_held, values_conflict}

-- ---- exactly one

module _ (b k : ℕ) where
  in_pairs : (i j : ℕ) → i < j → j < k → Memᴰ (pair b i j) (pairs b k)
  in_pairs i j l h =
      in_list (λ i. pairs_after b i (k - 1 - i)) k i (omega arith)
      (in_list (λ t. pair b i (i + 1 + t) ∷ []) (k - 1 - i) (j - (i + 1)) (omega arith)
      (Memᴰ.head (ap (λ (n : ℕ). pair b i n) (omega arith))))

  of_pairs : (c : Clause) → Memᴰ c (pairs b k) → (i : ℕ) × (j : ℕ) × (i < j) × (j < k) × (c ≡ pair b i j)
  of_pairs c m =
      let t = of_list (λ i. pairs_after b i (k - 1 - i)) k m in
      let s = of_list (λ r. pair b t.0 (t.0 + 1 + r) ∷ []) (k - 1 - t.0) t.2 in
      (t.0, t.0 + 1 + s.0, omega arith, omega (arith, s.1), Memᴰ.eq_of_singleton s.2)

  pair_out : (cs : List Clause) → Among (pairs b k) cs → (i j : ℕ) → i < k → j < k → (i < j) ⊎ (j < i) → Reached (OneIn b j) cs (negated (value_number b i))
  pair_out cs sub i j hi hj (inl l) = first_reached (sub _ (in_pairs i j l hj)) (given refl)
  pair_out cs sub i j hi hj (inr l) = second_reached (sub _ (in_pairs j i l hi)) (given refl)

  -- one true value satisfies every pair
  module _ (j : ℕ) (σ : Setting) (f : (i : ℕ) → i < k → σ (value_number b i) ≡ eqb i j) where
    pair_held : (i l : ℕ) → i < l → l < k → Dec (i ≡ j) → Held σ (pair b i l)
    pair_held i l u v (yes e) = held_second σ _ _ _ (ap not (f l v ∙ ne_eqb l j (λ q. omega arith)))
    pair_held i l u v (no n) = held_first σ _ _ (ap not (f i (omega arith) ∙ ne_eqb i j n))

    pairs_held : Satisfies σ (pairs b k)
    pairs_held c m = let t = of_pairs c m in subst (Held σ) (sym t.4) (pair_held t.0 t.1 t.2 t.3 (ℕ_discrete t.0 j))

all_out : (b k : ℕ) → Conflict (AllOut b k) (pairwise b k)
all_out b k = values_conflict b k (pairwise b k) (Memᴰ.head refl)

one_in : (b k i j : ℕ) → i < k → j < k → (i ≡ j → ⊥) → Reached (OneIn b j) (pairwise b k) (negated (value_number b i))
one_in b k i j hi hj n = pair_out b k (pairwise b k) (λ c m. Memᴰ.tail m) i j hi hj (below_or_above i j n)

pub edition1_one : ExactlyOne edition1
edition1_one =
    record {
      helper = λ k j t. false;
      conflicts = λ b h k. all_out b k;
      rules_out = λ b h k. one_in b k;
      satisfied_exactly = λ b h k σ. (
        (λ s. let t = one_value b k (pairwise b k) (all_out b k) (one_in b k) σ s in (t.0, record { below = t.1; value_is = t.2; helper_is = λ t ht. absurd (not-suc-le-zero ht) })),
        (λ t. every_more (Held σ) (values_held b k t.0 t.1.below σ t.1.value_is) (pairs_held b k t.0 σ t.1.value_is)),
      );
    }

-- ---- their own variables

pub edition1_own : OwnVariables edition1
edition1_own b h k =
    every_more (Literals Mine) (one_of_literals (λ j. value_number b j) k Mine (λ j l. own_value j l))
    (every_up_to (Literals Mine) k (λ i. pairs_after b i (k - 1 - i))
    (λ i l. every_up_to (Literals Mine) (k - 1 - i) (λ t. pair b i (i + 1 + t) ∷ [])
    (λ t m. each_every (Literals Mine) (pair b i (i + 1 + t) ∷ []) (each_every (λ l. Mine (nat_abs l)) (pair b i (i + 1 + t)) (own_value i l, (own_value (i + 1 + t) (omega arith), tt)), tt))))
  where
    Mine : ℕ → Type 0
    Mine = Own edition1 b h k

-- ---- how many they are

pair_sum_lem : (k m : ℕ) → m ≤ k → 2 * sum_to m (λ i. k - 1 - i) + m * m + m ≡ 2 * (m * k)
unfolding sum_to
pair_sum_lem k zero h = omega arith
pair_sum_lem k (suc m) h = omega (arith, pair_sum_lem k m (let q : m ≤ k = omega arith in q))

square_less : (k : ℕ) → k * (k - 1) + k ≡ k * k
square_less zero = refl
square_less (suc k) = let q : suc k - 1 ≡ k = omega arith in rw q (omega arith)

-- each value with those after it
pub pair_count_lem : (k : ℕ) → sum_to k (λ i. k - 1 - i) ≡ pair_count k
pair_count_lem k = omega (arith, pair_sum_lem k k (omega arith), square_less k)

-- the half is whole
pub pair_twice : (k : ℕ) → 2 * pair_count k ≡ k * (k - 1)
pair_twice k = omega (arith, pair_sum_lem k k (omega arith), square_less k)

pub product_most : (k : ℕ) → k ≤ 32 → k * (k - 1) ≤ 992
product_most k h = let q : k - 1 ≤ 31 = omega arith in mul-le-mul h q

pub pairs_most : (k : ℕ) → k ≤ 32 → pair_count k ≤ 496
pairs_most k h = omega (arith, product_most k h)

option_clauses_lem : (b k : ℕ) → length (pairwise b k) ≡ 1 + pair_count k
option_clauses_lem b k =
    omega (
      arith,
      list_length (λ i. pairs_after b i (k - 1 - i)) k,
      sum_same (λ i. length (pairs_after b i (k - 1 - i))) (λ i. k - 1 - i) k (λ i h. list_singles (k - 1 - i) (λ t. pair b i (i + 1 + t))),
      pair_count_lem k,
    )

after_words : (b i n : ℕ) → length (words (pairs_after b i n)) ≡ 0 + 3 * n
after_words b i n = omega (arith, length_each n (λ t. pair b i (i + 1 + t)), sum_const 3 n)

option_words : (b k : ℕ) → length (words (pairwise b k)) ≡ k + 1 + 3 * pair_count k
option_words b k =
    omega (
      arith,
      length_more (all_values b k) (pairs b k),
      list_singles k (λ j. plain (value_number b j)),
      length-up_to k (λ i. pairs_after b i (k - 1 - i)),
      sum_same (λ i. length (words (pairs_after b i (k - 1 - i)))) (λ i. 0 + 3 * (k - 1 - i)) k (λ i h. after_words b i (k - 1 - i)),
      sum_linear 0 3 (λ i. k - 1 - i) k,
      pair_count_lem k,
    )

pub edition1_counts : OptionCounts edition1 (λ k. 1 + pair_count k) (λ k. k + 1 + 3 * pair_count k)
edition1_counts = record { clauses_are = λ b h k. option_clauses_lem b k; words_are = λ b h k. option_words b k }
