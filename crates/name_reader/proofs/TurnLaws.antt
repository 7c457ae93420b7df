-- What a literal's turn finds, and the marks that it leaves. Assumes nothing.
use mathlib.Core.Path.{◌≡◌, sym, ◌∙◌, ap, subst}
use mathlib.Core.Bool.{Bool, false}
use mathlib.Core.List.{List}
use Prim.Native.Nat.{ℕ, ◌+◌, ◌-◌, ◌≤◌, ◌<◌}
use native.Mathlib.Omega.{arith}
use lib.IntN.{ℤ, pos, nat_abs}
use lib.ListN.{length, get_or, take, drop, length-drop}
use lib.Seq.{length-take-le, get_or-take, get_or-drop}
use borrow.Author.Tests.{le-leb}
use Rattle.literals.specs.Literals.{literal, variable}
use Rattle.naming.specs.Naming.{mark_of, again}
use Rattle.naming.specs.Marks.{is_marked, has_mark, with_mark, Marks}
use Rattle.naming.proofs.MarkLaws.{marked_again, noted_marks}

-- the literal at k of a part, which goes from one index to another
module _ (m : List ℤ) (from end k : ℕ) (h : from ≤ end) (l : end ≤ length m) (below : k < length (take (end - from) (drop from m))) where
  short : length (take (end - from) (drop from m)) ≡ end - from
  short = length-take-le (end - from) (drop from m) (omega (arith, length-drop from m))

  pub part_below : from + k < end
  part_below = omega (arith, short)

  pub part_at : get_or (take (end - from) (drop from m)) k (pos 0) ≡ literal m (from + k)
  part_at = get_or-take (end - from) (drop from m) k (pos 0) (omega (arith, short)) ∙ get_or-drop from m k (pos 0)

module _ {D : ℕ} {m : List ℤ} {i : ℕ} {ms : List ℕ} (marks : Marks D m i ms) (small : D ≤ 2048) (some : 1 ≤ variable m i) {y : ℤ} (is : y ≡ literal m i) {x k : ℕ} (named : x ≡ nat_abs y) (says : k ≡ mark_of y) {had : Bool} (found : had ≡ has_mark D x ms) where
  named_is : x ≡ variable m i
  named_is = named ∙ ap nat_abs is

  had_one : had ≡ is_marked D (variable m i) ms
  had_one = rw (named_is, le-leb 1 (variable m i) some) at found

  -- it finds its variable named again, or not
  pub finds : had ≡ again D m i
  finds = had_one ∙ marked_again marks small some

  -- where it does not, the marks say what all up to it say
  pub leaves : {after : List ℕ} → had ≡ false → after ≡ with_mark D x k ms → Marks D m (i + 1) after
  leaves e q = subst (Marks D m (i + 1)) (sym (rw (named_is, says, is, le-leb 1 (variable m i) some) at q)) (noted_marks marks small some (sym had_one ∙ e))
