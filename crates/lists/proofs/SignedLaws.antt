-- Laws of signed words of 32 bits: a number below 2 ^ 31 as such a word, its negation, and what the tests and the
-- magnitude of a word are in code. Assumes nothing.
use mathlib.Core.Path.{◌≡◌, refl, ap, ◌∙◌}
use Prim.Native.Nat.{ℕ, zero, suc, ◌-◌, ◌<◌, ◌≤◌, ◌^◌}
use native.Mathlib.Nat.{zero-add}
use native.Mathlib.Omega.{arith}
use lib.Dec.{eqb}
use lib.IntN.{ℤ, pos, negsuc, neg_ℤ, nat_abs, ◌-ℤ◌, +ℤ_idl}
use lib.Signed.{lt_z}
use mir.Syntax.{w32}
use mir.Val.{SFits, of_z, to_z}
use mir.ValLaws.{to_z_pos, to_z-of_z}
use borrow.Author.Tests.{le-ltb, ne_eqb}
use Rattle.lists.specs.Signed.{is_zero, is_negative}

-- ---- a number below 2 ^ 31 as a word, and its negation

pub as_word : (v : ℕ) → v < 2 ^ 31 → to_z w32 v ≡ pos v
as_word v h = to_z_pos w32 v h

pub minus_fits : (v : ℕ) → v < 2 ^ 31 → SFits w32 (neg_ℤ (pos v))
minus_fits zero h = record { sfits = h }
minus_fits (suc n) h = record { sfits = omega arith }

-- `0 - y` where y is v
pub minus_is : (v : ℕ) {y : ℤ} → y ≡ pos v → pos 0 -ℤ y ≡ neg_ℤ (pos v)
minus_is v e = ap (λ (z : ℤ). pos 0 -ℤ z) e ∙ +ℤ_idl (neg_ℤ (pos v))

-- the same as the machine computes it from the bits of v
pub fits_less : (v : ℕ) → v < 2 ^ 31 → SFits w32 (to_z w32 0 -ℤ to_z w32 v)
fits_less v h = rw (minus_is v (as_word v h)) (minus_fits v h)

pub minus_back : (v : ℕ) → v < 2 ^ 31 → to_z w32 (of_z w32 (to_z w32 0 -ℤ to_z w32 v)) ≡ neg_ℤ (pos v)
minus_back v h = to_z-of_z w32 _ (fits_less v h) ∙ minus_is v (as_word v h)

-- ---- the tests, of a word z whose value y the code reads

pub zero_is : (z : ℤ) → SFits w32 z → eqb (of_z w32 z) 0 ≡ is_zero z
unfolding is_zero
zero_is (pos zero) h = refl
zero_is (pos (suc n)) h = ne_eqb (suc n) 0 (omega arith)
zero_is (negsuc n) h = let k = h.sfits in ne_eqb (2 ^ 32 - suc n) 0 (omega arith)

pub neg_is : (z : ℤ) {y : ℤ} → y ≡ z → lt_z y (pos 0) ≡ is_negative z
unfolding is_negative
neg_is z {y} e = ap (λ (x : ℤ). lt_z x (pos 0)) e ∙ go z
  where
    go : (z : ℤ) → lt_z z (pos 0) ≡ is_negative z
    go (pos n) = le-ltb n 0 (omega arith)
    go (negsuc n) = refl

-- ---- the magnitude

pub turned : (n : ℕ) {y : ℤ} → y ≡ neg_ℤ (pos n) → pos 0 -ℤ y ≡ pos n
turned n {y} e = ap (λ (x : ℤ). pos 0 -ℤ x) e ∙ go n
  where
    go : (n : ℕ) → pos 0 -ℤ neg_ℤ (pos n) ≡ pos n
    go zero = refl
    go (suc n) = ap pos (zero-add (suc n))

pub abs_fits : (z : ℤ) → nat_abs z < 2 ^ 31 → SFits w32 z
abs_fits (pos n) h = record { sfits = h }
abs_fits (negsuc n) h = record { sfits = omega arith }

pub fits_abs : (z : ℤ) → SFits w32 z → nat_abs z ≤ 2 ^ 31
fits_abs (pos n) h = let k = h.sfits in omega arith
fits_abs (negsuc n) h = let k = h.sfits in omega arith
