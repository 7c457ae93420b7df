-- Tests of a signed word. Its magnitude is `nat_abs` of lib.IntN. Assumes nothing.
use Rattle.std.specs.Prelude.{Bool, true, false, ℕ, zero, suc, ltb}
use lib.IntN.{ℤ, pos, negsuc, nat_abs}

unfoldable pub is_zero : ℤ → Bool
is_zero (pos zero) = true
is_zero (pos (suc n)) = false
is_zero (negsuc n) = false

unfoldable pub is_negative : ℤ → Bool
is_negative (pos n) = false
is_negative (negsuc n) = true

-- above v, or below -v
abbrev pub beyond : ℕ → ℤ → Bool
beyond v z = ltb v (nat_abs z)
