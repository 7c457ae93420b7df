-- Laws of the width of a decimal: below a power of ten and from there on, and told by comparisons. Assumes nothing.
use mathlib.Core.Path.{◌≡◌, refl}
use mathlib.Core.Bool.{Bool, true, false, cond}
use Prim.Native.Nat.{ℕ, zero, suc, ◌+◌, ◌*◌, ◌/◌, ◌^◌, ◌≤◌, ◌<◌, min}
use native.Mathlib.Nat.{pow-suc, one-le-pow}
use native.Mathlib.Omega.{arith}
use native.Mathlib.Decide.{dec_lt}
use lib.Dec.{leb}
use lib.ListN.{length}
use borrow.Author.Tests.{leb-true, leb-false}
use Rattle.decimal.specs.Digits.{digits, reached, short_width}
use Rattle.decimal.proofs.DigitsLaws.{length_small, length_step, length_pos}

-- below 10 ^ f there are at most f digits, and from there on there are more
pub length_most : (f n : ℕ) → n < 10 ^ suc f → n < 10 ^ 20 → length (digits n) ≤ suc f
length_most zero n h l = omega (arith, length_small n h)
length_most (suc f) n h l = go (length_most f (n / 10)) (dec_lt n 10)
  where
    go : (n / 10 < 10 ^ suc f → n / 10 < 10 ^ 20 → length (digits (n / 10)) ≤ suc f) → Dec (n < 10) → length (digits n) ≤ suc (suc f)
    go ih (yes s) = omega (arith, length_small n s)
    go ih (no s) = omega (arith, length_step n (omega arith) l, ih (omega (arith, rw pow-suc at h)) (omega arith))

pub length_least : (f n : ℕ) → 10 ^ f ≤ n → n < 10 ^ 20 → suc f ≤ length (digits n)
length_least zero n h l = length_pos n l
length_least (suc f) n h l =
    let k = rw pow-suc at h in
    let p : 1 ≤ 10 ^ f = one-le-pow f 10 (omega arith) in
    omega (arith, length_step n (omega arith) l, length_least f (n / 10) (omega arith) (omega arith))

pub length_log : (f n : ℕ) → 10 ^ f ≤ n → n < 10 * 10 ^ f → n < 10 ^ 20 → length (digits n) ≡ f + 1
length_log f n h g l = let m : n < 10 ^ suc f = rw pow-suc (omega arith) in omega (arith, length_least f n h l, length_most f n m l)

-- how many powers of ten a number reaches, as they are compared one after the other: none is, and one more
module _ (n : ℕ) (h : n < 10 ^ 20) where
  width_one : 1 ≡ min 1 (length (digits n))
  width_one = omega (arith, length_pos n h)

  width_more : (k : ℕ) {s : ℕ} → s ≡ min (suc k) (length (digits n)) → s + reached (10 ^ suc k) n ≡ min (suc (suc k)) (length (digits n))
  width_more k {s} d = go (leb (10 ^ suc k) n) refl
    where
      go : (t : Bool) → leb (10 ^ suc k) n ≡ t → s + cond t 1 0 ≡ min (suc (suc k)) (length (digits n))
      go true t = omega (arith, length_least (suc k) n (leb-true (10 ^ suc k) n t) h)
      go false t = omega (arith, length_most k n (leb-false (10 ^ suc k) n t) h)

  pub powers_reached : 1 + reached 10 n + reached 100 n + reached 1000 n + reached 10000 n + reached 100000 n + reached 1000000 n ≡ short_width n
  powers_reached = width_more 5 (width_more 4 (width_more 3 (width_more 2 (width_more 1 (width_more 0 width_one)))))
