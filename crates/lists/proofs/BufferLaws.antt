-- Laws of buffers that words were written into: at the front, from an index on, one after the other, in a loop, and in a
-- part that is lent. Assumes nothing.
use mathlib.Core.Path.{◌≡◌, refl, sym, ◌∙◌, ap}
use mathlib.Core.List.{List, [], ◌∷◌, ◌++◌, append-nil}
use Prim.Native.Nat.{ℕ, suc, ◌+◌, ◌-◌, ◌≤◌, ◌<◌}
use native.Mathlib.Nat.{add-zero, zero-add, add-suc, suc-add, le-add_right, le_of_eq}
use native.Mathlib.Numerals.{add-one}
use native.Mathlib.Omega.{arith}
use lib.ListN.{length, take, drop, set, length-append, length-drop, take-append-drop, drop_of_length-le}
use lib.Seq.{sets, length-sets, sets-eq, set-set, set_comm, drop-set-add, take-set-le, take_all, take-append_seam, drop-append_seam}
use borrow.Rule.Slice.PartMut.{mid_of, post_of, put_mid}
use Rattle.lists.specs.Upto.{up_to}
use Rattle.lists.specs.Buffer.{over, Wrote, Front}
use Rattle.lists.proofs.UptoLaws.{sum_room, list_none, list_more, list_length}

-- ---- a buffer whose front was written

module _ {A : Type 0} where
  pub over_none : (buf : List A) → over [] buf ≡ buf
  unfolding over
  over_none buf = refl

module _ {A : Type 0} (xs buf : List A) where
  pub over-take : take (length xs) (over xs buf) ≡ xs
  unfolding over
  over-take = take-append_seam xs (drop (length xs) buf)

  pub over-drop : drop (length xs) (over xs buf) ≡ drop (length xs) buf
  unfolding over
  over-drop = drop-append_seam xs (drop (length xs) buf)

  -- its two parts, told by a count
  pub over_parts : {n : ℕ} {after : List A} → n ≡ length xs → after ≡ over xs buf → (take n after ≡ xs) × (drop n after ≡ drop n buf)
  over_parts e b = rw (e, b) (over-take, over-drop)

  -- as many as the buffer has: nothing is left of it
  pub over_all : length buf ≤ length xs → over xs buf ≡ xs
  unfolding over
  over_all h = ap (λ (l : List A). xs ++ l) (drop_of_length-le buf h) ∙ append-nil xs

-- ---- words stored from an index on

module _ {A : Type 0} where
  sets-append : (l : List A) (i : ℕ) (xs ys : List A) → sets l i (xs ++ ys) ≡ sets (sets l i xs) (i + length xs) ys
  sets-append l i [] ys = rw add-zero
  sets-append l i (x ∷ xs) ys = sets-append (set l i x) (suc i) xs ys ∙ rw (suc-add, add-suc)

  sets_part_at : (l : List A) (at i : ℕ) (ws : List A) → take at l ++ sets (drop at l) i ws ≡ sets l (at + i) ws
  sets_part_at l at i [] = take-append-drop at l
  sets_part_at l at i (w ∷ ws) =
      rw (← drop-set-add at l i w, ← take-set-le at l (at + i) w (le-add_right at i))
      (sets_part_at (set l (at + i) w) at (suc i) ws ∙ rw add-suc)

  -- words stored from the start of what lies past at
  sets_part : (l : List A) (at : ℕ) (ws : List A) → take at l ++ sets (drop at l) 0 ws ≡ sets l at ws
  sets_part l at ws = sets_part_at l at 0 ws ∙ rw add-zero

  sets_over : (ws l : List A) → length ws ≤ length l → sets l 0 ws ≡ over ws l
  unfolding over
  sets_over ws l h = sets-eq ws l 0 (rw zero-add h) ∙ rw zero-add

  sets_before : (l : List A) (at : ℕ) (ws : List A) (i : ℕ) (a : A) → i < at → set (sets l at ws) i a ≡ sets (set l i a) at ws
  sets_before l at [] i a h = refl
  sets_before l at (w ∷ ws) i a h = sets_before (set l at w) (suc at) ws i a (omega arith) ∙ rw (set_comm l at i w a (λ e. omega arith))

  -- nothing is written, and one word is stored
  pub none : (l : List A) (at : ℕ) → Wrote l at [] l at
  none l at = record { list = refl; next = omega arith }

  pub put : (l : List A) (at : ℕ) (a : A) → Wrote l at (a ∷ []) (set l at a) (at + 1)
  put l at a = record { list = refl; next = refl }

  -- a word is written over at once: it is as if it had not been stored
  pub put_over : {l l₁ : List A} {at : ℕ} (a : A) (ws : List A) {l' : List A} {r : ℕ} → l₁ ≡ set l at a → 0 < length ws → Wrote l₁ at ws l' r → Wrote l at ws l' r
  put_over a [] e h b = absurd (omega arith)
  put_over {l} {at} a (w ∷ ws) e h b = record { list = b.list ∙ ap (λ (q : List A). sets q (suc at) ws) (ap (λ (q : List A). set q at w) e ∙ set-set l at a w); next = b.next }

module _ {A : Type 0} {l l₁ xs : List A} {at r₁ : ℕ} (a : Wrote l at xs l₁ r₁) where
  -- the list keeps its length
  pub kept : length l₁ ≡ length l
  kept = ap length a.list ∙ length-sets l at xs

  -- one after the other
  pub then : {l₂ ys : List A} {r₂ : ℕ} → Wrote l₁ r₁ ys l₂ r₂ → Wrote l at (xs ++ ys) l₂ r₂
  then {l₂} {ys} b = record {
    list = b.list ∙ (λ i. sets (a.list i) (a.next i) ys) ∙ sym (sets-append l at xs ys);
    next = omega (arith, length-append xs ys);
  }

  -- one more word is stored before them
  pub then_before : (i : ℕ) (w : A) → at ≡ i + 1 → Wrote l i (w ∷ xs) (set l₁ i w) r₁
  then_before i w e = record {
    list = ap (λ (q : List A). set q i w) a.list ∙ sets_before l at xs i w (omega arith) ∙ rw (e, add-one i);
    next = omega (arith, a.next);
  }

  -- room for both leaves room for the second
  pub then_room : (ys : List A) → at + length (xs ++ ys) ≤ length l → r₁ + length ys ≤ length l₁
  then_room ys h = omega (arith, length-append xs ys, kept)

  -- the same words, said in another way
  pub wrote_as : {ys : List A} → xs ≡ ys → Wrote l at ys l₁ r₁
  wrote_as e = rw e at a

  -- the same index past them, said in another way
  pub wrote_next : {r : ℕ} → r₁ ≡ r → Wrote l at xs l₁ r
  wrote_next e = rw e at a

-- room for both is room for the first
pub first_room : {A : Type 0} (xs ys : List A) (at n : ℕ) → at + length (xs ++ ys) ≤ n → at + length xs ≤ n
first_room xs ys at n h = omega (arith, length-append xs ys)

-- ---- the front

module _ {A : Type 0} {l ws l' : List A} {r : ℕ} where
  -- stored from index 0 on, where there is room
  pub written : length ws ≤ length l → Wrote l 0 ws l' r → l' ≡ over ws l
  written h a = a.list ∙ sets_over ws l h

  pub to_front : length ws ≤ length l → Wrote l 0 ws l' r → Front l ws l' r
  to_front h a = record { list = written h a; next = omega (arith, a.next) }

  pub from_front : length ws ≤ length l → Front l ws l' r → Wrote l 0 ws l' r
  from_front h a = record { list = a.list ∙ sym (sets_over ws l h); next = omega (arith, a.next) }

  pub front_same : {l₂ : List A} {r₂ : ℕ} → Front l ws l' r → Front l ws l₂ r₂ → (l' ≡ l₂) × (r ≡ r₂)
  front_same a b = (a.list ∙ sym b.list, a.next ∙ sym b.next)

-- ---- a loop that writes f 0, f 1, .. up to f (n - 1): before its turn k, `up_to k f` is written

module _ {A : Type 0} (f : ℕ → List A) {l : List A} {at : ℕ} where
  pub begin : Wrote l at (up_to 0 f) l at
  begin = rw (list_none f) (none l at)

  module _ {k : ℕ} {l₁ : List A} {r₁ : ℕ} (a : Wrote l at (up_to k f) l₁ r₁) where
    pub turn : {l₂ : List A} {r₂ : ℕ} → Wrote l₁ r₁ (f k) l₂ r₂ → Wrote l at (up_to (k + 1) f) l₂ r₂
    turn b = rw (list_more f k) (then a b)

    -- room for all of them leaves room for the next
    pub room : {n : ℕ} → at + length (up_to n f) ≤ length l → k < n → r₁ + length (f k) ≤ length l₁
    room {n} h g = omega (arith, kept a, list_length f n, list_length f k, sum_room (λ j. length (f j)) k n g)

    -- the loop stops at n
    pub finish : {n : ℕ} → k ≤ n → n ≤ k → Wrote l at (up_to n f) l₁ r₁
    finish {n} h g = let e : k ≡ n = omega arith in rw e at a

-- ---- a part of the buffer, from at on, is lent as a list of its own

module _ {A : Type 0} (l : List A) (at : ℕ) where
  part_all : mid_of at (length l - at) l ≡ drop at l
  part_all = take_all (length l - at) (drop at l) (le_of_eq (length-drop at l))

  part_rest : post_of at (length l - at) l ≡ []
  part_rest = drop_of_length-le (drop at l) (le_of_eq (length-drop at l))

  pub part_room : (n : ℕ) → at + n ≤ length l → n ≤ length (mid_of at (length l - at) l)
  part_room n h = rw (part_all, length-drop) (omega arith)

  -- what was written into the part, seen in the whole when it comes back
  pub in_part : {ws l' : List A} {r : ℕ} → Wrote (mid_of at (length l - at) l) 0 ws l' r → Wrote l at ws (put_mid at (length l - at) l l') (at + r)
  in_part {ws} {l'} a = record {
    list = rw (part_rest, append-nil) (ap (λ (q : List A). take at l ++ q) (a.list ∙ ap (λ (q : List A). sets q 0 ws) part_all) ∙ sets_part l at ws);
    next = omega arith;
  }

  pub front_in_part : {ws l' : List A} {r : ℕ} → at + length ws ≤ length l → Front (mid_of at (length l - at) l) ws l' r → Wrote l at ws (put_mid at (length l - at) l l') (at + r)
  front_in_part {ws} h a = in_part (from_front (part_room (length ws) h) a)
