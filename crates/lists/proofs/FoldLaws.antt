-- What a fold over a whole list says of its elements: whether some element passes, where each is asked. Assumes nothing.
use Rattle.std.specs.Prelude.{◌≡◌, Bool, true, false, ◌||◌, List, [], ◌∷◌, None, suc, length, position, fold, refl}
use Rattle.std.specs.List.{position_or_len}
use Rattle.std.proofs.Common.{arith}
use borrow.Author.Tests.{le-ltb}

-- one that passed stays
one_passed : {A : Type 0} (p : A → Bool) (xs : List A) → fold (λ some x. some || p x) true xs ≡ false → ⊥
one_passed p [] e = cc
one_passed p (x ∷ xs) e = one_passed p xs e

all_fail : {A : Type 0} (p : A → Bool) (xs : List A) → fold (λ some x. some || p x) false xs ≡ false → position_or_len p xs ≡ length xs
all_fail p [] e = refl
all_fail p (x ∷ xs) e = go (p x) refl e (all_fail p xs)
  where
    go : (b : Bool) → p x ≡ b → fold (λ some x. some || p x) b xs ≡ false → (fold (λ some x. some || p x) false xs ≡ false → position_or_len p xs ≡ length xs) → position_or_len p (x ∷ xs) ≡ suc (length xs)
    go true q e r = absurd (one_passed p xs e)
    go false q e r = rw q (omega (arith, r e))

-- where none does, a search finds none
pub none_passes : {A : Type 0} (p : A → Bool) (xs : List A) → fold (λ some x. some || p x) false xs ≡ false → position p xs ≡ None
none_passes p xs e = let h = all_fail p xs e in rw (le-ltb (position_or_len p xs) (length xs) (omega (arith, h)))
