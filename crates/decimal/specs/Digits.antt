-- Decimals: which bytes are one, the number that they say, and the bytes that say a number. A byte is a number below 256.
-- Assumes nothing.
use Rattle.std.specs.Prelude.{Bool, true, false, cond, not, ◌&&◌, List, [], ◌∷◌, ◌++◌, ℕ, zero, suc, ◌+◌, ◌-◌, ◌*◌, ◌/◌, ◌%◌, min, leb, ltb, eqb, length}

-- `0` to `9`
unfoldable pub is_digit : ℕ → Bool
is_digit b = leb 48 b && leb b 57

unfoldable pub all_digits : List ℕ → Bool
all_digits [] = true
all_digits (b ∷ bs) = is_digit b && all_digits bs

-- there is a byte, and where there are more the first is no `0`
unfoldable pub plain : List ℕ → Bool
plain [] = false
plain (b ∷ []) = true
plain (b ∷ c ∷ bs) = not (eqb b 48)

-- the bytes are a decimal: digits, at least one, and no leading zero
unfoldable pub is_decimal : List ℕ → Bool
is_decimal bs = all_digits bs && plain bs

-- the number that digits say, read on from a number v
unfoldable pub value_from : ℕ → List ℕ → ℕ
value_from v [] = v
value_from v (b ∷ bs) = value_from (v * 10 + (b - 48)) bs

-- the number that digits say
unfoldable pub value : List ℕ → ℕ
value bs = value_from 0 bs

-- the digits of n, of which there are at most f + 1: the last one stands after those of n / 10
unfoldable pub digits_with : ℕ → ℕ → List ℕ
digits_with zero n = (48 + n) ∷ []
digits_with (suc f) n = cond (ltb n 10) ((48 + n) ∷ []) (digits_with f (n / 10) ++ ((48 + n % 10) ∷ []))

-- the decimal of a number below 10 ^ 20
unfoldable pub digits : ℕ → List ℕ
digits n = digits_with 19 n

-- how many digits that are, counted up to 7
abbrev pub short_width : ℕ → ℕ
short_width n = min 7 (length (digits n))

-- 1 where a number reaches a bound, and 0 where it does not
abbrev pub reached : ℕ → ℕ → ℕ
reached bound n = cond (leb bound n) 1 0
