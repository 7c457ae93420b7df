-- Laws of a decimal's digits two by two and four by four, and of two of them as one number. Assumes nothing.
use mathlib.Core.Path.{◌≡◌, ◌∙◌}
use mathlib.Core.List.{List, [], ◌∷◌, ◌++◌, append_assoc}
use Prim.Native.Nat.{ℕ, ◌+◌, ◌-◌, ◌*◌, ◌/◌, ◌%◌, ◌^◌, ◌≤◌, ◌<◌}
use native.Mathlib.Omega.{arith}
use lib.Seq.{append_snoc}
use Rattle.decimal.specs.Digits.{digits}
use Rattle.decimal.proofs.DigitsLaws.{digits_small, digits_step}
use Rattle.decimal_pairs.specs.Pairs.{pair, four}

pub digits_pair : (n : ℕ) → 10 ≤ n → n < 100 → digits n ≡ pair n
digits_pair n h l = rw (digits_step n h (omega arith), digits_small (n / 10) (omega arith))

-- the last two digits
pub digits_last_two : (n : ℕ) → 100 ≤ n → n < 10 ^ 20 → digits n ≡ digits (n / 100) ++ pair (n % 100)
digits_last_two n h l =
    let a : n / 10 / 10 ≡ n / 100 = omega arith in
    let b : n / 10 % 10 ≡ n % 100 / 10 = omega arith in
    let c : n % 10 ≡ n % 100 % 10 = omega arith in
    digits_step n (omega arith) l ∙ rw (digits_step (n / 10) (omega arith) (omega arith), append_snoc, a, b, c)

pub digits_three : (n : ℕ) → 100 ≤ n → n < 1000 → digits n ≡ (48 + n / 100) ∷ pair (n % 100)
digits_three n h l = digits_last_two n h (omega arith) ∙ rw (digits_small (n / 100) (omega arith))

pub digits_four : (n : ℕ) → 1000 ≤ n → n < 10000 → digits n ≡ four n
digits_four n h l = digits_last_two n (omega arith) (omega arith) ∙ rw (digits_pair (n / 100) (omega arith) (omega arith))

-- the last four digits
pub digits_last_four : (n : ℕ) → 10000 ≤ n → n < 10 ^ 20 → digits n ≡ digits (n / 10000) ++ four (n % 10000)
digits_last_four n h l =
    let a : n / 100 / 100 ≡ n / 10000 = omega arith in
    let b : n / 100 % 100 ≡ n % 10000 / 100 = omega arith in
    let c : n % 100 ≡ n % 10000 % 100 = omega arith in
    digits_last_two n (omega arith) l ∙ rw (digits_last_two (n / 100) (omega arith) (omega arith), append_assoc, a, b, c)

-- the bytes of two digits, as one number: the first is its low byte
pub packed_pair : (n both : ℕ) → n < 100 → both ≡ 12336 + 256 * n - 2559 * (n / 10) → ◌≡◌ {A = List ℕ} (both % 256 ∷ both / 256 ∷ []) (pair n)
packed_pair n both h e =
    let first : both % 256 ≡ 48 + n / 10 = omega arith in
    let second : both / 256 ≡ 48 + n % 10 = omega arith in
    rw (first, second)
