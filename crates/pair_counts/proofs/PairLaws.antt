-- How many pairs there are at most. Assumes nothing.
use Prim.Native.Nat.{ℕ, ◌-◌, ◌*◌, ◌≤◌}
use native.Mathlib.Nat.{mul-le-mul}
use native.Mathlib.Omega.{arith}

-- twice the pairs of at most m values
pub product_within : (m k : ℕ) → k ≤ m → k * (k - 1) ≤ m * (m - 1)
product_within m k h = let q : k - 1 ≤ m - 1 = omega arith in mul-le-mul h q
