-- The literals of a solver's model, the variables that they name, and the test of one that is out of range, number 10. A model is
-- a list of literals, which count from 0. Assumes nothing.
use Rattle.std.specs.Prelude.{Bool, ◌||◌, List, ℕ, ℤ, pos, nat_abs, get_or}
use Rattle.lists.specs.Signed.{is_zero, beyond}

-- the literal at index k, and the variable that it names
abbrev pub literal : List ℤ → ℕ → ℤ
literal m k = get_or m k (pos 0)

abbrev pub variable : List ℤ → ℕ → ℕ
variable m k = nat_abs (literal m k)

-- a literal is 0, or beyond the last variable either way
abbrev pub bad_literal : ℕ → ℤ → Bool
bad_literal last l = is_zero l || beyond last l

abbrev pub bad_at : ℕ → List ℤ → ℕ → Bool
bad_at last m k = bad_literal last (literal m k)
