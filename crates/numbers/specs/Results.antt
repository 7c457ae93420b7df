-- What the arithmetic gives: a result that cannot be had is 0. Assumes nothing.
use Rattle.std.specs.Prelude.{Bool, cond, ◌&&◌, ℕ, ◌+◌, ◌*◌, ◌/◌, ◌%◌, ◌==◌, nat_lt, List, length, ℤ, pos, slice_index_or}
use Rattle.std.specs.Ordering.{int_eq}

-- two numbers below 2 to the 32
abbrev pub are_small : ℕ → ℕ → Bool
are_small a b = nat_lt a 4294967296 && nat_lt b 4294967296

abbrev pub sum_of : ℕ → ℕ → ℕ
sum_of a b = cond (are_small a b) (a + b) 0

abbrev pub product_of : ℕ → ℕ → ℕ
product_of a b = cond (are_small a b) (a * b) 0

abbrev pub quotient_of : ℕ → ℕ → ℕ
quotient_of a b = cond (b == 0) 0 (a / b)

abbrev pub remainder_of : ℕ → ℕ → ℕ
remainder_of a b = cond (b == 0) 0 (a % b)

-- 1 where two numbers differ
abbrev pub unlike_count : ℕ → ℕ → ℕ
unlike_count a b = cond (a == b) 0 1

-- 1 where the word at an index is another, or there is none
abbrev pub unlike_entry : List ℤ → ℕ → ℤ → ℕ
unlike_entry words at word = cond (nat_lt at (length words) && int_eq (slice_index_or words at (pos 0)) word) 0 1
