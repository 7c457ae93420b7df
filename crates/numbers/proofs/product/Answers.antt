-- `numbers::product` is safe and ends: both factors are below the limit, whose square is what a number holds.
-- Assumes nothing.
use Rattle.std.proofs.Common.{ℕ, ◌*◌, ◌<◌, arith}
use Rattle.std.proofs.lemmas.Bool.Decides.{nat_tests}
use Rattle.std.proofs.lemmas.Nat.{mul-lt}
use Rattle.numbers.proofs.product.Goals as goal

small_product : (a b : ℕ) → a < 4294967296 → b < 4294967296 → a * b < 18446744073709551616
small_product a b low high = mul-lt a b 4294967296 4294967296 low high

pub overflow_mul-result : goal.overflow_mul-result
overflow_mul-result c = grind (arith, nat_tests, small_product)
