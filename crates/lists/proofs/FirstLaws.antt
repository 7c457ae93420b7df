-- Laws of the first index at which a test holds: a loop's three exits, and that the index is the least; and of the count of
-- such indices, where it is none or one. Assumes nothing.
use Rattle.std.specs.Prelude.{Option, Some, None}
use mathlib.Core.Path.{◌≡◌, refl, sym, ◌∙◌, ap}
use mathlib.Core.Bool.{Bool, true, false, not, cond, true≢false}
use mathlib.Core.Logic.{◌⊎◌, inl, inr, ⊎_elim, ◌↔◌}
use Prim.Native.Nat.{ℕ, zero, suc, ◌+◌, ◌-◌, ◌≤◌, ◌<◌}
use native.Mathlib.Numerals.{add-one}
use native.Mathlib.Nat.{not-suc-le-zero}
use native.Mathlib.Omega.{arith}
use lib.Dec.{ltb, eqb}
use borrow.Author.Tests.{ltb-true, ltb-false, eqb-true, eqb-false, ne_eqb, not-true, not-false}
use Rattle.lists.specs.Upto.{sum_to, count_to, last_to}
use Rattle.lists.specs.First.{found_if, or_found, counted_from, first, sole, FirstFailing}
use Rattle.lists.proofs.UptoLaws.{at_most_one, last_or_below, below_or_not, decide, is_false, sum_more, sum_most, sum_room, sum_stretch, sum_same, last_is, up_to_last, is_last}

pub if_none : (b : Bool) (k : ℕ) → found_if b k ≡ None → b ≡ false
if_none false k e = refl
if_none true k e = cc

pub if_at : (b : Bool) (k p : ℕ) → found_if b k ≡ Some p → (b ≡ true) × (p ≡ k)
if_at false k p e = (cc, cc)
if_at true k p e = (refl, cc)

or_none : (f g : Option ℕ) → or_found f g ≡ None → (f ≡ None) × (g ≡ None)
or_none None g e = (refl, e)
or_none (Some i) g e = (e, cc)

or_at : (f g : Option ℕ) (p : ℕ) → or_found f g ≡ Some p → (f ≡ Some p) ⊎ ((f ≡ None) × (g ≡ Some p))
or_at None g p e = inr (refl, e)
or_at (Some i) g p e = inl e

-- nothing is not an index
pub found_one : (f : Option ℕ) {p : ℕ} → f ≡ None → f ≡ Some p → ⊥
found_one f e g = let z : ◌≡◌ {A = ℕ} 0 1 = cc in absurd (omega arith)

module _ (bad : ℕ → Bool) where
  -- a loop begins, passes an index, stops at one, comes to the end
  pub start : first bad 0 ≡ None
  unfolding first
  start = refl

  pub pass : (i : ℕ) → first bad i ≡ None → bad i ≡ false → first bad (i + 1) ≡ None
  unfolding first
  pass i p q = rw (add-one, p, q)

  pub stop : (i n : ℕ) → first bad i ≡ None → bad i ≡ true → i < n → Some i ≡ first bad n
  unfolding first
  stop i zero p q h = absurd (not-suc-le-zero h)
  stop i (suc n) p q h = go (λ l. stop i n p q l) (last_or_below i n h)
    where
      go : (i < n → Some i ≡ first bad n) → (i ≡ n) ⊎ (i < n) → Some i ≡ first bad (suc n)
      go r (inl l) = rw (← l, p, q)
      go r (inr l) = rw (← (r l))

  pub done : (i n : ℕ) → first bad i ≡ None → i ≤ n → n ≤ i → None ≡ first bad n
  done i n p h l = let e : i ≡ n = omega arith in rw (← e, p)

  -- nothing is found exactly when the test holds nowhere below n
  pub none_bad : (n : ℕ) → first bad n ≡ None → (k : ℕ) → k < n → bad k ≡ false
  unfolding first
  none_bad zero e k h = absurd (not-suc-le-zero h)
  none_bad (suc n) e k h =
      let w = or_none (first bad n) (found_if (bad n) n) e in
      ⊎_elim (λ (l : k ≡ n). ap bad l ∙ if_none (bad n) n w.1) (λ l. none_bad n w.0 k l) (last_or_below k n h)

  pub bad_none : (n : ℕ) → ((k : ℕ) → k < n → bad k ≡ false) → first bad n ≡ None
  unfolding first
  bad_none zero g = refl
  bad_none (suc n) g = rw (bad_none n (λ k h. g k (omega arith)), g n (omega arith))

  -- p is found exactly when it is the least index below n at which the test holds
  pub found_least : (n p : ℕ) → first bad n ≡ Some p → (p < n) × (bad p ≡ true) × ((k : ℕ) → k < p → bad k ≡ false)
  unfolding first
  found_least zero p e = let z : ◌≡◌ {A = ℕ} 0 1 = cc in absurd (omega arith)
  found_least (suc n) p e = go (or_at (first bad n) (found_if (bad n) n) p e) (found_least n p)
    where
      go : (first bad n ≡ Some p) ⊎ ((first bad n ≡ None) × (found_if (bad n) n ≡ Some p)) → (first bad n ≡ Some p → (p < n) × (bad p ≡ true) × ((k : ℕ) → k < p → bad k ≡ false)) → (p < suc n) × (bad p ≡ true) × ((k : ℕ) → k < p → bad k ≡ false)
      go (inl l) r = let w = r l in let h : p < n = w.0 in (omega arith, w.1, w.2)
      go (inr l) r =
          let a = if_at (bad n) n p l.1 in
          let q : p ≡ n = a.1 in
          (omega arith, ap bad q ∙ a.0, λ k h. none_bad n l.0 k (omega arith))

  pub least_found : (n p : ℕ) → p < n → bad p ≡ true → ((k : ℕ) → k < p → bad k ≡ false) → first bad n ≡ Some p
  least_found n p h e g = sym (stop p n (bad_none p g) e h)

-- a search that goes on from a, where none below a is bad
module _ (bad : ℕ → Bool) (a : ℕ) (e : first bad a ≡ None) where
  earlier : (k i : ℕ) → ((j : ℕ) → j < k → bad (a + j) ≡ false) → i < a + k → bad i ≡ false
  earlier k i g h = go (below_or_not i a)
    where
      go : (i < a) ⊎ (a ≤ i) → bad i ≡ false
      go (inl l) = none_bad bad a e i l
      go (inr l) = let q : i ≡ a + (i - a) = omega arith in ap bad q ∙ g (i - a) (omega arith)

  pub on_none : (k : ℕ) → first (λ j. bad (a + j)) k ≡ None → first bad (a + k) ≡ None
  on_none k g = bad_none bad (a + k) (λ i h. earlier k i (none_bad (λ j. bad (a + j)) k g) h)

  pub on_found : (k p n : ℕ) → first (λ j. bad (a + j)) k ≡ Some p → a + k ≤ n → first bad n ≡ Some (a + p)
  on_found k p n g h =
      let w = found_least (λ j. bad (a + j)) k p g in
      let l : p < k = w.0 in
      least_found bad n (a + p) (omega arith) w.1 (λ i l. earlier p i w.2 l)

-- two tests that agree below n
pub first_agrees : (f g : ℕ → Bool) (n : ℕ) → ((k : ℕ) → k < n → f k ≡ g k) → first f n ≡ first g n
unfolding first
first_agrees f g zero h = refl
first_agrees f g (suc n) h = rw (first_agrees f g n (λ k l. h k (omega arith)), h n (omega arith))

pub count_agrees : (f g : ℕ → Bool) (n : ℕ) → ((k : ℕ) → k < n → f k ≡ g k) → count_to n f ≡ count_to n g
unfolding count_to
count_agrees f g n h = sum_same (λ k. cond (f k) 1 0) (λ k. cond (g k) 1 0) n (λ k l. rw (h k l))

-- where a count is none, so is the search
module _ (bad : ℕ → Bool) where
  pub count_start : count_to 0 bad ≡ 0
  unfolding count_to sum_to
  count_start = refl

  -- a loop that has counted c before n adds 1 or 0
  pub count_more : (n : ℕ) {c a : ℕ} → c ≡ count_to n bad → a ≡ cond (bad n) 1 0 → c + a ≡ count_to (n + 1) bad
  unfolding count_to
  count_more n h e = omega (arith, sum_more (λ k. cond (bad k) 1 0) n)

  -- or it passes n, or counts it
  pub count_pass : (n : ℕ) {c : ℕ} → c ≡ count_to n bad → bad n ≡ false → c ≡ count_to (n + 1) bad
  count_pass n {c} h e = omega (arith, count_more n {a = 0} h (rw e))

  pub count_found : (n : ℕ) {c : ℕ} → c ≡ count_to n bad → bad n ≡ true → c + 1 ≡ count_to (n + 1) bad
  count_found n h e = count_more n h (rw e)

  pub count_most : (n : ℕ) → count_to n bad ≤ n
  unfolding count_to
  count_most n = omega (arith, sum_most (λ k. cond (bad k) 1 0) 1 n (λ k h. at_most_one (bad k)))

  pub count_none : (n : ℕ) → count_to n bad ≡ 0 → first bad n ≡ None
  unfolding count_to sum_to first
  count_none zero e = refl
  count_none (suc n) e = go (bad n) refl (count_none n)
    where
      go : (b : Bool) → bad n ≡ b → (count_to n bad ≡ 0 → first bad n ≡ None) → first bad (suc n) ≡ None
      go true q r = absurd (omega (arith, rw q at e))
      go false q r = rw (r (omega (arith, rw q at e)), q)

-- a count of one: the test holds at the last index, and at no other
module _ (test : ℕ → Bool) where
  -- a stretch where the test holds nowhere
  count_still : (i n : ℕ) → i ≤ n → ((j : ℕ) → i ≤ j → j < n → test j ≡ false) → count_to n test ≡ count_to i test
  unfolding count_to
  count_still i n h g =
      let e : n ≡ i + (n - i) = omega arith in
      ap (λ (k : ℕ). count_to k test) e
      ∙ sum_stretch (λ k. cond (test k) 1 0) 0 i (n - i) (λ j l m. rw (g j l (omega arith)))
      ∙ omega arith

  count_free : (n : ℕ) → ((j : ℕ) → j < n → test j ≡ false) → count_to n test ≡ 0
  count_free n g = count_still 0 n (omega arith) (λ j _ l. g j l) ∙ count_start test

  count_two : (i j n : ℕ) → i < j → j < n → test i ≡ true → test j ≡ true → 2 ≤ count_to n test
  unfolding count_to
  count_two i j n h l s t =
      let f : ℕ → ℕ = λ k. cond (test k) 1 0 in
      let a : f i ≡ 1 = rw s in
      let b : f j ≡ 1 = rw t in
      omega (arith, sum_room f i j h, sum_room f j n l)

  pub count_one : (n : ℕ) → count_to n test ≡ 1 → (last_to n test < n) × (test (last_to n test) ≡ true) × ((j : ℕ) → j < n → test j ≡ true → j ≡ last_to n test)
  count_one n e = go (last_is test n)
    where
      go : ((last_to n test < n) × (test (last_to n test) ≡ true)) ⊎ ((j : ℕ) → j < n → test j ≡ false)
          → (last_to n test < n) × (test (last_to n test) ≡ true) × ((j : ℕ) → j < n → test j ≡ true → j ≡ last_to n test)
      go (inl w) = (
        w.0,
        w.1,
        λ j h t. ⊎_elim (λ (l : j < last_to n test). absurd (omega (arith, count_two j (last_to n test) n l w.0 t w.1))) (λ (l : last_to n test ≤ j). omega (arith, up_to_last test n j h t)) (below_or_not j (last_to n test)),
      )
      go (inr g) = absurd (omega (arith, count_free n g))

  pub one_count : (n i : ℕ) → i < n → test i ≡ true → ((j : ℕ) → j < n → test j ≡ true → j ≡ i) → (count_to n test ≡ 1) × (last_to n test ≡ i)
  one_count n i h t g = (
    count_still (i + 1) n (omega arith) (λ j l m. no_other j m (λ q. omega arith)) ∙ sym (count_found test i (sym (count_free i (λ j l. no_other j (omega arith) (λ q. omega arith)))) t),
    is_last test n i h t (λ j l m. no_other j m (λ q. omega arith)),
  )
    where
      no_other : (j : ℕ) → j < n → (j ≡ i → ⊥) → test j ≡ false
      no_other j l m = is_false (test j) (λ e. m (g j l e))

-- a loop that has counted the indices and kept the last one comes to the end: there is exactly one, or not
module _ (test : ℕ → Bool) (i n : ℕ) {c : ℕ} (h : i ≤ n) (l : n ≤ i) (count : c ≡ count_to i test) where
  pub sole_one : {v : ℕ} → v ≡ last_to i test → c ≡ 1 → Some v ≡ sole test n
  unfolding sole
  sole_one last e = let q : i ≡ n = omega arith in rw (← q, ← count, e, ← last)

  pub sole_none : (c ≡ 1 → ⊥) → None ≡ sole test n
  unfolding sole
  sole_none e = let q : i ≡ n = omega arith in rw (← q, ← count, ne_eqb c 1 e)

-- a test and what it is for: it finds p exactly when what is asked for is missing at p, and nothing exactly when all is well
pub record Tests (found : Option ℕ) (Missing : ℕ → Type 0) (Well : Type 0) : Type 0 where
  pub at : (p : ℕ) → (found ≡ Some p) ↔ Missing p
  pub none : (found ≡ None) ↔ Well

-- a search, where below n the test is true exactly of the indices of which P fails
module _ (bad : ℕ → Bool) (P : ℕ → Type 0) (n : ℕ) (good : (k : ℕ) → k < n → bad k ≡ false → P k) (not-Good : (k : ℕ) → k < n → bad k ≡ true → P k → ⊥) where
  holds : (k : ℕ) → k < n → P k → bad k ≡ false
  holds k h p = is_false (bad k) (λ e. not-Good k h e p)

  fails : (k : ℕ) → k < n → (P k → ⊥) → bad k ≡ true
  fails k h p = ⊎_elim (λ (e : bad k ≡ true). e) (λ (e : bad k ≡ false). absurd (p (good k h e))) (decide (bad k))

  failing : (p : ℕ) → first bad n ≡ Some p → FirstFailing n P p
  failing p e =
      let w = found_least bad n p e in
      let l : p < n = w.0 in
      record { below = l; fails = not-Good p l w.1; least = λ k h. good k (omega arith) (w.2 k h) }

  found_failing : (p : ℕ) → FirstFailing n P p → first bad n ≡ Some p
  found_failing p r =
      let l : p < n = r.below in
      least_found bad n p l (fails p l r.fails) (λ k h. holds k (omega arith) (r.least k h))

  pub tests_each : Tests (first bad n) (FirstFailing n P) ((k : ℕ) → k < n → P k)
  tests_each =
      record {
        at = λ p. (failing p, found_failing p);
        none = ((λ e k h. good k h (none_bad bad n e k h)), (λ g. bad_none bad n (λ k h. holds k h (g k h))));
      }

-- one test, due at a given place where a condition fails
pub tests_at : (place : ℕ) (bad : Bool) (P : Type 0) → (bad ≡ false → P) → (bad ≡ true → P → ⊥) → Tests (found_if bad place) (λ p. (p ≡ place) × (P → ⊥)) P
tests_at place true P good not-Good =
    record {
      at = λ p. ((λ e. ((if_at true place p e).1, not-Good refl)), (λ w. ap Some (sym w.0)));
      none = ((λ e. absurd (found_one (Some place) e refl)), (λ h. absurd (not-Good refl h)));
    }
tests_at place false P good not-Good =
    record {
      at = λ p. ((λ e. absurd (found_one None refl e)), (λ w. absurd (w.1 (good refl))));
      none = ((λ e. good refl), (λ h. refl));
    }

pub tests_one : (bad : Bool) (P : Type 0) → (bad ≡ false → P) → (bad ≡ true → P → ⊥) → Tests (found_if bad 0) (λ p. (p ≡ 0) × (P → ⊥)) P
tests_one = tests_at 0

-- one test that has to hold
pub tests_held : (place : ℕ) (good : Bool) → Tests (found_if (not good) place) (λ p. (p ≡ place) × (good ≡ true → ⊥)) (good ≡ true)
tests_held place good = tests_at place (not good) (good ≡ true) (not-false good) (λ e h. true≢false (sym h ∙ not-true good e))

-- one test of two numbers that have to be equal
pub tests_equal_at : (place a b : ℕ) → Tests (found_if (not (eqb a b)) place) (λ p. (p ≡ place) × (a ≡ b → ⊥)) (a ≡ b)
tests_equal_at place a b = tests_at place (not (eqb a b)) (a ≡ b) (λ e. eqb-true a b (not-false (eqb a b) e)) (λ e. eqb-false a b (not-true (eqb a b) e))

pub tests_equal : (a b : ℕ) → Tests (found_if (not (eqb a b)) 0) (λ p. (p ≡ 0) × (a ≡ b → ⊥)) (a ≡ b)
tests_equal = tests_equal_at 0

-- one test of a buffer's length against the length needed, which is the place
pub tests_room : (room needed : ℕ) → Tests (found_if (ltb room needed) needed) (λ p. (p ≡ needed) × (needed ≤ room → ⊥)) (needed ≤ room)
tests_room room needed = tests_at needed (ltb room needed) (needed ≤ room) (λ e. ltb-false room needed e) (λ e h. omega (arith, ltb-true room needed e))

-- a search that counted from m on
pub tests_from : (m : ℕ) (found : Option ℕ) {Missing : ℕ → Type 0} {Well : Type 0} → Tests found Missing Well → Tests (counted_from m found) (λ p. (k : ℕ) × (p ≡ m + k) × Missing k) Well
tests_from m None t = record {
  at = λ p. ((λ e. absurd (found_one None refl e)), (λ w. absurd (found_one None refl ((t.at w.0).1 w.2))));
  none = t.none;
}
tests_from m (Some q) t =
    record {
      at = λ p. ((λ e. (q, from e, (t.at q).0 refl)), (λ w. ap Some (ap (λ (k : ℕ). m + k) (same ((t.at w.0).1 w.2)) ∙ sym w.1)));
      none = ((λ e. absurd (found_one (Some (m + q)) e refl)), (λ h. absurd (found_one (Some q) (t.none.1 h) refl)));
    }
  where
    from : {p : ℕ} → Some (m + q) ≡ Some p → p ≡ m + q
    from e = cc

    same : {k : ℕ} → Some q ≡ Some k → q ≡ k
    same e = cc
