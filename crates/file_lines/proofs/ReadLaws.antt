-- How a line's form is found out step by step, and what is read of it. Assumes nothing.
use mathlib.Core.Path.{◌≡◌, ◌∙◌}
use mathlib.Core.Bool.{true, false}
use mathlib.Core.List.{List, [], ◌∷◌}
use Prim.Native.Nat.{ℕ, ◌+◌, ◌≤◌, ◌<◌}
use native.Mathlib.Omega.{arith}
use lib.ListN.{length}
use borrow.Author.Tests.{le-leb, lt-leb}
use Rattle.decimal.specs.Bytes.{line_feed, has_at}
use Rattle.decimal.specs.Reading.{reading_at, field_of}
use Rattle.decimal.specs.declared.Reading.{Reading}
use Rattle.decimal.proofs.BytesLaws.{has_inside}
use Rattle.decimal.proofs.FieldLaws.{Field, field_found, field_missing}
use native.Mathlib.Decide.{dec_lt}
use Rattle.std.specs.Prelude.{Option, Some, None, Result, Ok, Err}
use Rattle.std.specs.Result.{OkIff, result_ok}
use Rattle.std.specs.declared.num.TryFromIntError.{TryFromIntError}
use Rattle.diagram_file.specs.Lines.{most_value, read_after, formed_at, line_at}

-- a key that stands in the text ends inside it, or where it begins
pub key_inside : (text key : List ℕ) (at most : ℕ) → at ≤ most → length text ≤ most → has_at text at key ≡ true → at + length key ≤ most
key_inside text [] at most a l h = omega arith
key_inside text (k ∷ key) at most a l h = omega (arith, has_inside text at k key h)

-- a value that is told to fit 32 bits, or not to
told_more : (r : Result ℕ TryFromIntError) (v : ℕ) → OkIff r (v < 4294967296) v → None ≡ result_ok r → most_value < v
told_more (Ok x) v o e = cc
told_more (Err x) v o e = go (dec_lt v 4294967296)
  where
    go : Dec (v < 4294967296) → most_value < v
    go (yes l) = absurd (o l)
    go (no l) = omega arith

told_fits : (r : Result ℕ TryFromIntError) (v x : ℕ) → OkIff r (v < 4294967296) v → Some x ≡ result_ok r → (v ≤ most_value) × (x ≡ v)
told_fits (Ok y) v x o e = let s : x ≡ y = cc in (omega (arith, o.0), s ∙ o.1)
told_fits (Err y) v x o e = (cc, cc)

module _ (text key : List ℕ) (at : ℕ) where
  -- none
  none_read : formed_at text key at ≡ false → None ≡ line_at text key at
  unfolding line_at
  none_read f = rw f

  pub no_key : has_at text at key ≡ false → None ≡ line_at text key at
  unfolding formed_at
  no_key e = none_read (rw e)

  module _ (h : has_at text at key ≡ true) {q : Option Reading} (r : q ≡ reading_at text (at + length key)) where
    pub no_field : None ≡ field_of text q line_feed → None ≡ line_at text key at
    unfolding formed_at
    no_field e = none_read (rw (h, field_missing text (at + length key) line_feed r e))

    module _ {read : Reading} (f : Some read ≡ field_of text q line_feed) where
      found : Field text (at + length key) line_feed read
      found = field_found text (at + length key) line_feed r f

      pub read_inside : read.end + 1 ≤ length text
      read_inside = found.inside

      pub too_much : (t : Result ℕ TryFromIntError) → OkIff t (read.value < 4294967296) read.value → None ≡ result_ok t → None ≡ line_at text key at
      unfolding formed_at
      too_much t o e = let m = rw found.said at (told_more t read.value o e) in none_read (rw (h, found.stands, lt-leb (read_after text key at).value most_value m))

      -- or the one that is read
      pub one_read : (t : Result ℕ TryFromIntError) {x : ℕ} → OkIff t (read.value < 4294967296) read.value → Some x ≡ result_ok t → Some (record { value = x; next = read.end + 1 }) ≡ line_at text key at
      unfolding line_at formed_at
      one_read t o e = let w = told_fits t read.value _ o e in let m = rw found.said at w.0 in rw (w.1, found.said, h, found.stands, le-leb (read_after text key at).value most_value m)
