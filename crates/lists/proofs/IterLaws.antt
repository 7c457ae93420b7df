-- What the library's searches, counts and sums of a list say, in the words of specs/: index by index. Assumes nothing.
use Rattle.std.specs.Prelude.{◌≡◌, Bool, true, false, cond, List, [], ◌∷◌, Some, None, ℕ, zero, suc, ◌+◌, ltb, length, get_or, refl}
use Rattle.std.specs.List.{position, position_or_len, sum_by, count_by, fold}
use Rattle.std.proofs.Common.{sym, arith}
use Rattle.std.proofs.lemmas.List.Sums.{fails_before_first, passes_at_first}
use borrow.Author.Tests.{ltb-true, ltb-false}
use Rattle.lists.specs.Upto.{sum_to, count_to}
use Rattle.lists.specs.First.{first}
use Rattle.lists.proofs.FirstLaws.{bad_none, least_found}

-- the first element that passes
pub position_first : {A : Type 0} (p : A → Bool) (xs : List A) (d : A) → position p xs ≡ first (λ (j : ℕ). p (get_or xs j d)) (length xs)
position_first {A} p xs d = go (ltb (position_or_len p xs) (length xs)) refl
  where
    go : (b : Bool) → ltb (position_or_len p xs) (length xs) ≡ b → cond b (Some (position_or_len p xs)) None ≡ first (λ (j : ℕ). p (get_or xs j d)) (length xs)
    go true e = let h = ltb-true _ _ e in sym (least_found (λ (j : ℕ). p (get_or xs j d)) (length xs) (position_or_len p xs) h (passes_at_first p xs d h) (λ k l. fails_before_first p xs k d l))
    go false e = let h = ltb-false _ _ e in sym (bad_none (λ (j : ℕ). p (get_or xs j d)) (length xs) (λ k l. fails_before_first p xs k d (omega (arith, h, l))))

sum_front : (f : ℕ → ℕ) (n : ℕ) → sum_to (suc n) f ≡ f 0 + sum_to n (λ k. f (suc k))
unfolding sum_to
sum_front f zero = omega arith
sum_front f (suc n) = omega (arith, sum_front f n)

folded : {A : Type 0} (f : A → ℕ) (d : A) (a : ℕ) (xs : List A) → fold (λ a x. a + f x) a xs ≡ a + sum_to (length xs) (λ j. f (get_or xs j d))
unfolding sum_to
folded f d a [] = omega arith
folded f d a (x ∷ xs) = omega (arith, folded f d (a + f x) xs, sum_front (λ j. f (get_or (x ∷ xs) j d)) (length xs))

-- a sum over the elements, and how many pass
pub sum_by_to : {A : Type 0} (f : A → ℕ) (xs : List A) (d : A) → sum_by f xs ≡ sum_to (length xs) (λ j. f (get_or xs j d))
sum_by_to f xs d = omega (arith, folded f d 0 xs)

pub count_by_to : {A : Type 0} (p : A → Bool) (xs : List A) (d : A) → count_by p xs ≡ count_to (length xs) (λ j. p (get_or xs j d))
unfolding count_to
count_by_to p xs d = sum_by_to (λ x. cond (p x) 1 0) xs d
