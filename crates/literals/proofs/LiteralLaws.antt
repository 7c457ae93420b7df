-- What a literal says that is not out of range, and when the cut of the last variable's number changes nothing. Assumes nothing.
use Rattle.std.specs.Prelude.{None}
use mathlib.Core.Path.{◌≡◌}
use mathlib.Core.Bool.{false}
use mathlib.Core.List.{List}
use Prim.Native.Nat.{ℕ, zero, suc, ◌≤◌, ◌<◌, min}
use native.Mathlib.Omega.{arith}
use lib.IntN.{ℤ, pos, negsuc, nat_abs}
use lib.ListN.{length}
use Rattle.lists.specs.First.{first}
use Rattle.lists.specs.Signed.{is_zero}
use Rattle.lists.proofs.FirstLaws.{none_bad}
use Rattle.literals.specs.Literals.{variable, bad_literal, bad_at}

-- a number that a literal can have is not cut
pub not_cut : (most n : ℕ) → n ≤ most → min most n ≡ n
not_cut most n h = omega arith

good_names : (last : ℕ) (l : ℤ) → bad_literal last l ≡ false → 1 ≤ nat_abs l
unfolding is_zero
good_names last (pos zero) e = let w : ◌≡◌ {A = ℕ} 0 1 = cc in absurd (omega arith)
good_names last (pos (suc n)) e = omega arith
good_names last (negsuc n) e = omega arith

-- where none is out of range, each names a variable
pub all_name : (last : ℕ) (m : List ℤ) → first (bad_at last m) (length m) ≡ None → (k : ℕ) → k < length m → 1 ≤ variable m k
all_name last m e k h = good_names last _ (none_bad (bad_at last m) (length m) e k h)
