-- Laws of comment lines, byte by byte. Assumes nothing.
use mathlib.Core.Path.{◌≡◌, sym, ◌∙◌}
use mathlib.Core.Bool.{Bool, true, false, not}
use mathlib.Core.List.{List, []}
use Prim.Native.Nat.{ℕ, ◌+◌, ◌≤◌, ◌<◌}
use native.Mathlib.Numerals.{add-one}
use native.Mathlib.Omega.{arith}
use lib.Dec.{eqb}
use lib.ListN.{length, get_or, drop, drop_of_length-le}
use lib.Seq.{drop-cons}
use borrow.Author.Tests.{eq-eqb, ne_eqb}
use Rattle.dimacs.specs.Header.{comments}

-- the text has come to i, inside a comment line or at the beginning of a line
pub record Skipping (s : List ℕ) (i : ℕ) (inside : Bool) : Type 0 where
  pub left : comments false s ≡ comments inside (drop i s) + i

module _ (s : List ℕ) (i : ℕ) {inside : Bool} (p : Skipping s i inside) where
  module _ (h : i < length s) where
    -- one more byte of a comment; a line that begins with `c`; and one that does not
    pub skipping_on : inside ≡ true → Skipping s (i + 1) (not (eqb (get_or s i 0) 10))
    unfolding comments
    skipping_on w = record { left = p.left ∙ rw (w, add-one i, drop-cons s i 0 h) (omega arith) }

    pub skipping_new : inside ≡ false → get_or s i 0 ≡ 99 → Skipping s (i + 1) true
    unfolding comments
    skipping_new w e = record { left = p.left ∙ rw (w, add-one i, drop-cons s i 0 h, eq-eqb (get_or s i 0) 99 e) (omega arith) }

    pub skipping_stop : inside ≡ false → (get_or s i 0 ≡ 99 → ⊥) → i ≡ comments false s
    unfolding comments
    skipping_stop w e = sym (p.left ∙ rw (w, drop-cons s i 0 h, ne_eqb (get_or s i 0) 99 e) (omega arith))

  -- the text is over
  pub skipping_all : length s ≤ i → i ≡ comments false s
  unfolding comments
  skipping_all h = sym (p.left ∙ rw (drop_of_length-le s h) (go inside))
    where
      go : (w : Bool) → comments w [] + i ≡ i
      go true = omega arith
      go false = omega arith
