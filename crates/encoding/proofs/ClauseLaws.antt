-- What an emitter promises, where it writes and where it does not; words that are at hand; how long the pieces are
-- that the emitters write, and the same clauses said by other numbers. Assumes nothing.
use mathlib.Core.Path.{◌≡◌, refl, sym, ◌∙◌, ap}
use mathlib.Core.Bool.{Bool, true, false, cond, ◌&&◌}
use mathlib.Core.List.{List, [], ◌∷◌, ◌++◌}
use Prim.Native.Nat.{ℕ, ◌+◌, ◌-◌, ◌*◌, ◌%◌, ◌≤◌, ◌<◌, ◌^◌}
use native.Mathlib.Omega.{arith}
use lib.ListN.{length, get_or, set, drop, length-drop}
use Rattle.std.proofs.lemmas.List.{length-take}
use lib.IntN.{ℤ, pos, ◌-ℤ◌}
use borrow.Rule.Slice.PartMut.{mid_of, put_mid}
use mir.Syntax.{w32}
use mir.Val.{of_z, to_z}
use borrow.Author.Tests.{le-leb, lt-leb, leb-true}
use lib.Dec.{leb}
use Rattle.lists.specs.Upto.{up_to}
use Rattle.lists.proofs.UptoLaws.{list_same, list_singles, sum_same, sum_const}
use Rattle.lists.specs.Buffer.{over, Wrote, Front}
use Rattle.lists.proofs.SignedLaws.{as_word, minus_back}
use Rattle.lists.proofs.BufferLaws.{put, then, wrote_as, over_none, to_front, part_room, front_in_part}
use Rattle.cnf.specs.Clause.{Clause, plain, negated, words}
use Rattle.cnf.proofs.WordsLaws.{words_none, words_one, words_append, words-up_to, length_more, length-up_to}
use Rattle.diagram.specs.Numbers.{value_number, reference_number}
use Rattle.clauses.specs.Clauses.{one_of, all_values, pair, units, t2to5, t1}
use Rattle.encoding.specs.Emit.{edge_from, node_from, few, fitting, EmitPromise}
use Rattle.encoding.specs.declared.Bases.{Bases}

-- ---- what an emitter promises

module _ (n : ℕ) (ws l : List ℤ) where
  many_none : 1000000 < n → fitting n (length l) ws ≡ []
  unfolding fitting
  many_none h = rw (lt-leb n 1000000 h)

  and_false : (t : Bool) → (t && false) ≡ false
  and_false true = refl
  and_false false = refl

  short_none : length l < length ws → fitting n (length l) ws ≡ []
  unfolding fitting
  short_none h = rw (lt-leb (length ws) (length l) h, and_false (few n))

  kept_part : fitting n (length l) ws ≡ [] → EmitPromise n ws l l 0
  kept_part e = rw e (record { list = sym (over_none l); next = refl })

  -- nothing is written, for the one reason or the other
  pub too_many : 1000000 < n → EmitPromise n ws l l 0
  too_many h = kept_part (many_none h)

  pub too_short : length l < length ws → EmitPromise n ws l l 0
  too_short h = kept_part (short_none h)

  -- the words are written
  module _ (h : n ≤ 1000000) (k : length ws ≤ length l) where
    all_fit : fitting n (length l) ws ≡ ws
    unfolding fitting
    all_fit = rw (le-leb n 1000000 h, le-leb (length ws) (length l) k)

    pub emits : {l' : List ℤ} {r : ℕ} → Wrote l 0 ws l' r → EmitPromise n ws l l' r
    emits a = rw all_fit (to_front k a)

    -- over a part at the front that is as long as they are
    pub emits_part : {xs : List ℤ} {r : ℕ} → xs ≡ ws → r ≡ length ws → EmitPromise n ws l (xs ++ drop r l) r
    unfolding over
    emits_part e q = rw (all_fit, e, q) (record { list = refl; next = refl })

    pub emitted : {l' : List ℤ} {r : ℕ} → EmitPromise n ws l l' r → Front l ws l' r
    emitted a = rw all_fit at a

-- no more is written than there is room for
fitting_within : (n room : ℕ) (ws : List ℤ) → length (fitting n room ws) ≤ room
unfolding fitting
fitting_within n room ws = go (few n) (leb (length ws) room) refl
  where
    go : (f b : Bool) → leb (length ws) room ≡ b → length (cond (f && b) ws []) ≤ room
    go true true e = leb-true _ _ e
    go true false e = omega arith
    go false b e = omega arith

pub within_part : (l : List ℤ) (at n : ℕ) (ws : List ℤ) {l' : List ℤ} {r : ℕ} → at ≤ length l → EmitPromise n ws (mid_of at (length l - at) l) l' r → at + r ≤ length l
within_part l at n ws h a = omega (arith, a.next, fitting_within n (length (mid_of at (length l - at) l)) ws, length-take (length l - at) (drop at l), length-drop at l)

-- words that are at hand, said in another way, and counted from few numbers
pub few_enough : {n : ℕ} {xs ws l l' : List ℤ} {r : ℕ} → n ≤ 1000000 → xs ≡ ws → EmitPromise 0 xs l l' r → EmitPromise n ws l l' r
unfolding fitting
few_enough {n} h e a = rw (le-leb n 1000000 h) (rw e at a)

-- ---- the literal of a variable's number as it is computed

-- words that are at hand, written into a part
pub put_words : (l : List ℤ) (at : ℕ) {xs ws l' : List ℤ} {r : ℕ} → xs ≡ ws → at + length ws ≤ length l → EmitPromise 0 xs (mid_of at (length l - at) l) l' r → Wrote l at ws (put_mid at (length l - at) l l') (at + r)
put_words l at {ws = ws} e h a = front_in_part l at h (emitted 0 ws _ (omega arith) (part_room l at _ h) (few_enough (omega arith) e a))

pub plain_word : (v : ℕ) {n : ℕ} → v ≡ n → n < 2 ^ 31 → to_z w32 v ≡ plain n
plain_word v {n} e h = ap (to_z w32) e ∙ as_word n h

pub negated_word : (v : ℕ) {n : ℕ} → v ≡ n → n < 2 ^ 31 → to_z w32 (of_z w32 (to_z w32 0 -ℤ to_z w32 v)) ≡ negated n
negated_word v {n} e h = ap (λ (m : ℕ). to_z w32 (of_z w32 (to_z w32 0 -ℤ to_z w32 m))) e ∙ minus_back n h

-- ---- literals in a row

pub run_length : (f : ℕ → ℕ) (k : ℕ) → length (one_of f k) ≡ k
run_length f k = list_singles k (λ j. plain (f j))

pub run_same : (f g : ℕ → ℕ) (k : ℕ) → ((j : ℕ) → f j ≡ g j) → one_of f k ≡ one_of g k
run_same f g k h = list_same (λ j. plain (f j) ∷ []) (λ j. plain (g j) ∷ []) k (λ j l. ap (λ (n : ℕ). plain n ∷ []) (h j))

-- ---- blocks of clauses, one after the other

module _ (n : ℕ) (g : ℕ → List Clause) where
  -- room for the words of all blocks is room for each block's words
  pub each_room : (at room : ℕ) → at + length (words (up_to n g)) ≤ room → at + length (up_to n (λ k. words (g k))) ≤ room
  each_room at room h = rw (words-up_to n g) at h

  pub each_length : length (up_to n (λ k. words (g k))) ≡ length (words (up_to n g))
  each_length = ap length (sym (words-up_to n g))

  pub each_wrote : {l l' : List ℤ} {at r : ℕ} → Wrote l at (up_to n (λ k. words (g k))) l' r → Wrote l at (words (up_to n g)) l' r
  each_wrote a = wrote_as a (sym (words-up_to n g))

-- a clause, and then more
pub more_words : (c : Clause) (cs : List Clause) → words (c ∷ []) ++ words cs ≡ words (c ∷ cs)
more_words c cs = sym (words_append (c ∷ []) cs)

-- ---- an option's words

pub values_length : (b k : ℕ) → length (words (all_values b k ∷ [])) ≡ k + 1
values_length b k = omega (arith, length_more (all_values b k) [], ap length words_none, run_length (λ j. value_number b j) k)

pub values_words : (b k : ℕ) {first : ℕ} → first ≡ value_number b 0 → one_of (λ j. first + j) k ++ (pos 0 ∷ []) ≡ words (all_values b k ∷ [])
values_words b k {first} e = ap (λ (c : Clause). c ++ (pos 0 ∷ [])) (run_same (λ j. first + j) (λ j. value_number b j) k (λ j. omega arith)) ∙ sym (words_one (all_values b k))

pub pair_length : (b i j : ℕ) → length (words (pair b i j ∷ [])) ≡ 3
unfolding words
pair_length b i j = refl

pub pair_words : (b i j : ℕ) {m n : ℤ} → m ≡ negated (value_number b i) → n ≡ negated (value_number b j) → m ∷ n ∷ pos 0 ∷ [] ≡ words (pair b i j ∷ [])
unfolding words
pair_words b i j p q = rw (p, q)

-- ---- T, not F, root

pub units_words : (D : ℕ) {t f r : ℤ} → t ≡ plain (reference_number D 1) → f ≡ negated (reference_number D 0) → r ≡ plain (reference_number D 2) → t ∷ pos 0 ∷ f ∷ pos 0 ∷ r ∷ pos 0 ∷ [] ≡ words (units D)
unfolding words
units_words D p q r = rw (p, q, r)

pub units_length : (D : ℕ) → length (words (units D)) ≡ 6
unfolding words
units_length D = refl

-- ---- an edge's words

pub edge_length : (e v m x : ℕ) → length (words (t2to5 e v m x)) ≡ 13
unfolding words
edge_length e v m x = refl

-- as they are stored
pub edge_words : (e v m x : ℕ) {not-e to-v to-m to-x not-m not-x to-e : ℤ} → not-e ≡ negated e → to-v ≡ plain v → to-m ≡ plain m → to-x ≡ plain x → not-m ≡ negated m → not-x ≡ negated x → to-e ≡ plain e → not-e ∷ to-v ∷ pos 0 ∷ not-e ∷ to-m ∷ pos 0 ∷ not-e ∷ to-x ∷ pos 0 ∷ not-m ∷ not-x ∷ to-e ∷ pos 0 ∷ [] ≡ words (t2to5 e v m x)
unfolding words
edge_words e v m x a b c d f g h = rw (a, b, c, d, f, g, h)

-- ---- a node's words: T1, and then each edge's

-- the negation is stored, the edges' literals are written past it, and the closing 0 is stored past them
pub t1_wrote : (v : ℕ) (f : ℕ → ℕ) (k : ℕ) {l l₂ : List ℤ} {w : ℤ} {r : ℕ} → w ≡ negated v → Wrote (set l 0 w) 1 (one_of f k) l₂ r → Wrote l 0 (words (t1 v f k ∷ [])) (set l₂ r (pos 0)) (r + 1)
unfolding words
t1_wrote v f k {l} {l₂} {w} {r} e a = then (wrote_as (put l 0 w) (ap (λ (z : ℤ). z ∷ []) e)) (then a (put l₂ r (pos 0)))

-- its length
module _ (b : Bases) (ts : List ℕ) where
  pub edges_length : (k : ℕ) → length (words (up_to k (edge_from b ts))) ≡ 13 * k
  edges_length k =
      length-up_to k (edge_from b ts)
      ∙ sum_same _ (λ j. 13) k (λ j l. edge_length (b.edge + j) b.node (b.reference + get_or ts j 0 % 1048576) (b.value + j))
      ∙ sum_const 13 k

  pub node_length : length (words (node_from b ts)) ≡ 14 * length ts + 2
  node_length = omega (arith, length_more (t1 b.node (λ j. b.edge + j) (length ts)) (up_to (length ts) (edge_from b ts)), run_length (λ j. b.edge + j) (length ts), edges_length (length ts))
