-- Laws of sums, lists and counts built index by index. Assumes nothing.
use mathlib.Core.Path.{◌≡◌, refl, sym, ◌∙◌, ap, subst}
use mathlib.Core.Logic.{◌⊎◌, inl, inr, ⊎_elim}
use mathlib.Core.Bool.{Bool, true, false, cond, ◌||◌, true≢false}
use mathlib.Core.List.Memᴰ
use mathlib.Core.List.{List, [], ◌∷◌, ◌++◌, append_assoc, append-nil, Memᴰ}
use Prim.Native.Nat.{ℕ, zero, suc, ◌+◌, ◌-◌, ◌*◌, ◌≤◌, ◌<◌}
use native.Mathlib.Nat.{eq-or-lt_of_le, not-suc-le-zero, add-zero, mul-suc, suc-mul}
use native.Mathlib.Decide.{dec_lt}
use native.Mathlib.Numerals.{add-one}
use native.Mathlib.Omega.{arith}
use lib.ListN.{length, length-append, get_or, get_or-append}
use lib.Seq.{get_or_at, ext_get_or}
use lib.Dec.{leb}
use borrow.Author.Tests.{le-leb, lt-leb}
use Rattle.lists.specs.Upto.{sum_to, up_to, last_to}

-- an index below n + 1 is n or below n
pub last_or_below : (i n : ℕ) → i < suc n → (i ≡ n) ⊎ (i < n)
last_or_below i n h = eq-or-lt_of_le (omega arith)

-- a truth value is one of two
pub decide : (b : Bool) → (b ≡ true) ⊎ (b ≡ false)
decide true = inl refl
decide false = inr refl

-- what is not true is false
pub is_false : (b : Bool) → (b ≡ true → ⊥) → b ≡ false
is_false true h = absurd (h refl)
is_false false h = refl

-- 1 or 0, as a test says
pub at_most_one : (b : Bool) → cond b 1 0 ≤ 1
at_most_one true = omega arith
at_most_one false = omega arith

-- where one or the other is not true, neither is
pub both_false : (a b : Bool) → (a || b) ≡ false → (a ≡ false) × (b ≡ false)
both_false false b e = (refl, e)
both_false true b e = (cc, cc)

-- a number lies below another, or not
pub below_or_not : (a b : ℕ) → (a < b) ⊎ (b ≤ a)
below_or_not a b = go (dec_lt a b)
  where
    go : Dec (a < b) → (a < b) ⊎ (b ≤ a)
    go (yes l) = inl l
    go (no n) = inr (omega arith)

pub below_or_above : (a b : ℕ) → (a ≡ b → ⊥) → (a < b) ⊎ (b < a)
below_or_above a b n = ⊎_elim (λ (l : a < b). inl l) (λ (l : b ≤ a). inr (omega arith)) (below_or_not a b)

-- ---- sums

module _ (f : ℕ → ℕ) where
  pub sum_none : sum_to 0 f ≡ 0
  unfolding sum_to
  sum_none = refl

  -- a loop's turn
  pub sum_more : (n : ℕ) → sum_to (n + 1) f ≡ sum_to n f + f n
  unfolding sum_to
  sum_more n = rw add-one

  -- each term at most m
  pub sum_most : (m n : ℕ) → ((k : ℕ) → k < n → f k ≤ m) → sum_to n f ≤ m * n
  unfolding sum_to
  sum_most m zero h = omega arith
  sum_most m (suc n) h = rw mul-suc (omega (arith, sum_most m n (λ k l. h k (omega arith)), h n (omega arith)))

  pub sum_rises : (i n : ℕ) → i ≤ n → sum_to i f ≤ sum_to n f
  unfolding sum_to
  sum_rises i zero h = subst (λ (k : ℕ). sum_to k f ≤ 0) (let e : 0 ≡ i = omega arith in e) (omega arith)
  sum_rises i (suc n) h = go (eq-or-lt_of_le h) (sum_rises i n)
    where
      go : (i ≡ suc n) ⊎ (i < suc n) → (i ≤ n → sum_to i f ≤ sum_to n f) → sum_to i f ≤ sum_to n f + f n
      go (inl e) r = omega (arith, ap (λ (k : ℕ). sum_to k f) e)
      go (inr k) r = omega (arith, r (omega arith))

  -- a term of the sum has room in it
  pub sum_room : (i n : ℕ) → i < n → sum_to i f + f i ≤ sum_to n f
  sum_room i n h = omega (arith, sum_more i, sum_rises (i + 1) n (omega arith))

  pub sum_within : (i n a : ℕ) → i < n → a < f i → sum_to i f + a < sum_to n f
  sum_within i n a h k = omega (arith, sum_room i n h)

  -- a stretch of equal terms
  pub sum_stretch : (c i k : ℕ) → ((j : ℕ) → i ≤ j → j < i + k → f j ≡ c) → sum_to (i + k) f ≡ sum_to i f + k * c
  sum_stretch c i zero h = rw add-zero (omega arith)
  sum_stretch c i (suc k) h =
      let e : i + suc k ≡ (i + k) + 1 = omega arith in
      rw (e, sum_more, suc-mul) (omega (arith, sum_stretch c i k (λ j l m. h j l (omega arith)), h (i + k) (omega arith) (omega arith)))

  -- a number below the sum stands in one of the terms
  pub sum_split : (n u : ℕ) → u < sum_to n f → (i : ℕ) × (a : ℕ) × (i < n) × (a < f i) × (u ≡ sum_to i f + a)
  unfolding sum_to
  sum_split zero u h = absurd (not-suc-le-zero h)
  sum_split (suc n) u h = go (below_or_not u (sum_to n f)) (sum_split n u)
    where
      go : (u < sum_to n f) ⊎ (sum_to n f ≤ u) → (u < sum_to n f → (i : ℕ) × (a : ℕ) × (i < n) × (a < f i) × (u ≡ sum_to i f + a)) → (i : ℕ) × (a : ℕ) × (i < suc n) × (a < f i) × (u ≡ sum_to i f + a)
      go (inl l) r = let t = r l in let h : t.0 < n = t.2 in (t.0, t.1, omega arith, t.3, t.4)
      go (inr l) r = (n, u - sum_to n f, omega arith, omega arith, omega arith)

-- a running total of f: what a name for `sum_to` of f is known by
pub record Sums (f total : ℕ → ℕ) : Type 0 where
  pub none : total 0 ≡ 0
  pub more : (n : ℕ) → total (n + 1) ≡ total n + f n
  pub rise : (i n : ℕ) → i ≤ n → total i ≤ total n
  pub room : (i n : ℕ) → i < n → total i + f i ≤ total n

pub sums : (f : ℕ → ℕ) → Sums f (λ n. sum_to n f)
sums f = record { none = sum_none f; more = sum_more f; rise = sum_rises f; room = sum_room f }

pub sum_same : (f g : ℕ → ℕ) (n : ℕ) → ((k : ℕ) → k < n → f k ≡ g k) → sum_to n f ≡ sum_to n g
unfolding sum_to
sum_same f g zero h = refl
sum_same f g (suc n) h = rw (sum_same f g n (λ k l. h k (omega arith)), h n (omega arith))

-- equal terms
pub sum_const : (c n : ℕ) → sum_to n (λ k. c) ≡ c * n
unfolding sum_to
sum_const c zero = omega arith
sum_const c (suc n) = rw (sum_const c n, mul-suc) (omega arith)

-- a + b f k, summed
pub sum_linear : (a b : ℕ) (f : ℕ → ℕ) (n : ℕ) → sum_to n (λ k. a + b * f k) ≡ a * n + b * sum_to n f
unfolding sum_to
sum_linear a b f zero = omega arith
sum_linear a b f (suc n) = rw (sum_linear a b f n, mul-suc) (omega arith)

-- ---- lists

module _ {ℓ} {A : Type ℓ} (f : ℕ → List A) where
  pub list_none : up_to 0 f ≡ []
  unfolding up_to
  list_none = refl

  -- a loop's turn
  pub list_more : (n : ℕ) → up_to (n + 1) f ≡ up_to n f ++ f n
  unfolding up_to
  list_more n = rw add-one

  -- the first entry, and then the later ones
  pub list_front : (n : ℕ) → up_to (suc n) f ≡ f 0 ++ up_to n (λ k. f (suc k))
  unfolding up_to
  list_front zero = sym (append-nil (f 0))
  list_front (suc n) = rw (list_front n) (append_assoc (f 0) (up_to n (λ k. f (suc k))) (f (suc n)))

  pub list_length : (n : ℕ) → length (up_to n f) ≡ sum_to n (λ k. length (f k))
  unfolding up_to sum_to
  list_length zero = refl
  list_length (suc n) = length-append (up_to n f) (f n) ∙ rw (list_length n)

-- one entry at each index
pub list_singles {ℓ} : {A : Type ℓ} (n : ℕ) (f : ℕ → A) → length (up_to n (λ k. f k ∷ [])) ≡ n
list_singles n f = list_length (λ k. f k ∷ []) n ∙ sum_const 1 n ∙ omega arith

pub list_at {ℓ} : {A : Type ℓ} (a : A) (f : ℕ → A) (n i : ℕ) → i < n → get_or (up_to n (λ k. f k ∷ [])) i a ≡ f i
unfolding up_to
list_at a f zero i h = absurd (not-suc-le-zero h)
list_at a f (suc n) i h = go (last_or_below i n h) (list_at a f n i)
  where
    go : (i ≡ n) ⊎ (i < n) → (i < n → get_or (up_to n (λ k. f k ∷ [])) i a ≡ f i) → get_or (up_to n (λ k. f k ∷ []) ++ (f n ∷ [])) i a ≡ f i
    go (inl e) r = rw e (get_or_at (up_to n (λ k. f k ∷ [])) (f n) [] a n (list_singles n f))
    go (inr l) r = get_or-append (up_to n (λ k. f k ∷ [])) (f n ∷ []) a i (omega (arith, list_singles n f)) ∙ r l

-- each entry of a list in turn
pub list_whole : {A : Type 0} (a : A) (xs : List A) → up_to (length xs) (λ k. get_or xs k a ∷ []) ≡ xs
list_whole a xs =
    let n = list_singles (length xs) (λ k. get_or xs k a) in
    ext_get_or a (up_to (length xs) (λ k. get_or xs k a ∷ [])) xs n (λ k h. list_at a (λ k. get_or xs k a) (length xs) k (omega (arith, n)))

-- the same at each index
pub list_same {ℓ} : {A : Type ℓ} (f g : ℕ → List A) (n : ℕ) → ((k : ℕ) → k < n → f k ≡ g k) → up_to n f ≡ up_to n g
unfolding up_to
list_same f g zero h = refl
list_same f g (suc n) h = rw (list_same f g n (λ k l. h k (omega arith)), h n (omega arith))

module _ {A : Type 0} (f : ℕ → List A) {a : A} where
  pub in_list : (n i : ℕ) → i < n → Memᴰ a (f i) → Memᴰ a (up_to n f)
  unfolding up_to
  in_list zero i h m = absurd (not-suc-le-zero h)
  in_list (suc n) i h m = go (last_or_below i n h) (λ k. in_list n i k m)
    where
      go : (i ≡ n) ⊎ (i < n) → (i < n → Memᴰ a (up_to n f)) → Memᴰ a (up_to n f ++ f n)
      go (inl e) r = Memᴰ.append_right (up_to n f) (subst (λ (k : ℕ). Memᴰ a (f k)) e m)
      go (inr k) r = Memᴰ.append_left (f n) (r k)

  pub of_list : (n : ℕ) → Memᴰ a (up_to n f) → (i : ℕ) × (i < n) × Memᴰ a (f i)
  unfolding up_to
  of_list zero m = absurd (Memᴰ.not-nil m)
  of_list (suc n) m = go (Memᴰ.append_cases (up_to n f) m) (of_list n)
    where
      go : Memᴰ a (up_to n f) ⊎ Memᴰ a (f n) → (Memᴰ a (up_to n f) → (i : ℕ) × (i < n) × Memᴰ a (f i)) → (i : ℕ) × (i < suc n) × Memᴰ a (f i)
      go (inl l) r = let t = r l in let h : t.0 < n = t.1 in (t.0, omega arith, t.2)
      go (inr l) r = (n, omega arith, l)

-- ---- the last index

module _ (test : ℕ → Bool) where
  pub last_start : last_to 0 test ≡ 0
  unfolding last_to
  last_start = refl

  -- a loop that has the last index before n passes n, or takes it
  pub last_pass : (n : ℕ) {v : ℕ} → v ≡ last_to n test → test n ≡ false → v ≡ last_to (n + 1) test
  unfolding last_to
  last_pass n h e = rw (add-one n, e) h

  pub last_found : (n : ℕ) → test n ≡ true → n ≡ last_to (n + 1) test
  unfolding last_to
  last_found n e = rw (add-one n, e)

  -- the last index is one at which the test holds, or it holds at none
  pub last_is : (n : ℕ) → ((last_to n test < n) × (test (last_to n test) ≡ true)) ⊎ ((j : ℕ) → j < n → test j ≡ false)
  unfolding last_to
  last_is zero = inr (λ j h. absurd (not-suc-le-zero h))
  last_is (suc n) = go (test n) refl (last_is n)
    where
      go : (b : Bool) → test n ≡ b → ((last_to n test < n) × (test (last_to n test) ≡ true)) ⊎ ((j : ℕ) → j < n → test j ≡ false) → ((last_to (suc n) test < suc n) × (test (last_to (suc n) test) ≡ true)) ⊎ ((j : ℕ) → j < suc n → test j ≡ false)
      go true e r = inl (rw e (omega arith), rw e e)
      go false e (inl r) = let h : last_to n test < n = r.0 in inl (rw e (omega arith), rw e r.1)
      go false e (inr r) = inr (λ j h. ⊎_elim (λ (q : j ≡ n). ap test q ∙ e) (λ h'. r j h') (last_or_below j n h))

  -- no index at which the test holds comes after the last
  pub up_to_last : (n i : ℕ) → i < n → test i ≡ true → i ≤ last_to n test
  unfolding last_to
  up_to_last zero i h t = absurd (not-suc-le-zero h)
  up_to_last (suc n) i h t = go (test n) refl (last_or_below i n h) (λ l. up_to_last n i l t)
    where
      go : (b : Bool) → test n ≡ b → (i ≡ n) ⊎ (i < n) → (i < n → i ≤ last_to n test) → i ≤ cond b n (last_to n test)
      go true e c r = omega arith
      go false e (inl q) r = absurd (true≢false (sym t ∙ ap test q ∙ e))
      go false e (inr l) r = r l

  -- an index at which the test holds, and after which it does not, is the last
  pub is_last : (n i : ℕ) → i < n → test i ≡ true → ((j : ℕ) → i < j → j < n → test j ≡ false) → last_to n test ≡ i
  unfolding last_to
  is_last zero i h t g = absurd (not-suc-le-zero h)
  is_last (suc n) i h t g = go (last_or_below i n h) (λ l. is_last n i l t (λ j a b. g j a (omega arith)))
    where
      go : (i ≡ n) ⊎ (i < n) → (i < n → last_to n test ≡ i) → last_to (suc n) test ≡ i
      go (inl e) r = rw (sym (ap test e) ∙ t) (sym e)
      go (inr l) r = rw (g n l (omega arith)) (r l)

-- two tests that agree below n
pub last_agrees : (f g : ℕ → Bool) (n : ℕ) → ((k : ℕ) → k < n → f k ≡ g k) → last_to n f ≡ last_to n g
unfolding last_to
last_agrees f g zero h = refl
last_agrees f g (suc n) h = rw (last_agrees f g n (λ k l. h k (omega arith)), h n (omega arith))

-- where f k entries stand for each k in turn, an entry's index k is the last one at which they begin no later
pub last_term : {f total : ℕ → ℕ} → Sums f total → (n i u : ℕ) → i < n → total i ≤ u → u < total i + f i → last_to n (λ k. leb (total k) u) ≡ i
last_term {f} {total} s n i u h low high =
    is_last (λ k. leb (total k) u) n i h (le-leb (total i) u low)
    (λ k l m. lt-leb (total k) u (let q : total i + f i ≤ total k = s.room i k l in omega arith))

-- ---- one of two things at each index

-- one index has the first, or each has the second
pub either : {A : Type 0} (B : ℕ → Type 0) (n : ℕ) → ((k : ℕ) → k < n → A ⊎ B k) → A ⊎ ((k : ℕ) → k < n → B k)
either B zero f = inr (λ k h. absurd (not-suc-le-zero h))
either {A} B (suc n) f = go (f n (omega arith)) (either B n (λ k h. f k (omega arith)))
  where
    more : ((k : ℕ) → k < n → B k) → B n → (k : ℕ) → k < suc n → B k
    more l b k h = ⊎_elim (λ (e : k ≡ n). subst B (sym e) b) (λ h'. l k h') (last_or_below k n h)

    go : A ⊎ B n → A ⊎ ((k : ℕ) → k < n → B k) → A ⊎ ((k : ℕ) → k < suc n → B k)
    go (inl a) r = inl a
    go (inr b) (inl a) = inl a
    go (inr b) (inr l) = inr (more l b)
