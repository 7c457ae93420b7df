-- A truth value as a number, as code makes it by `from`. Assumes nothing.
use Rattle.std.specs.Prelude.{◌≡◌, Bool, true, false, cond, ◌≤◌, refl}
use Rattle.std.proofs.Common.{arith}
use mir.Val.{bool_byte}

pub as_number : (b : Bool) → bool_byte b ≡ cond b 1 0
as_number true = refl
as_number false = refl

pub number_most : (b : Bool) → bool_byte b ≤ 1
number_most true = omega arith
number_most false = omega arith
