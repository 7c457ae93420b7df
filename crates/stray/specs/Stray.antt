-- A range of references, and what strays from it; and how far the targets of a list spread. Assumes nothing.
use Rattle.std.specs.Prelude.{ℕ, ◌+◌, ◌<◌, ◌≤◌, Bool, not, ◌&&◌, ◌||◌, List, nat_le, nat_lt, slice_index}
use Rattle.stray.specs.declared.Range.{Range}

-- a reference that is none of the range
abbrev pub stray : Range → ℕ → Bool
stray r t = not (nat_lt t r.ends) && (nat_lt t r.low || nat_le r.high t)

-- of the first k targets none is above `most`, and none that is `ends` or more is below `ends` and `from` more
pub record Spans (ends : ℕ) (part : List ℕ) (k from most : ℕ) : Type 0 where
  pub least : (j : ℕ) → j < k → ends ≤ slice_index part j → ends + from ≤ slice_index part j
  pub highest : (j : ℕ) → j < k → slice_index part j ≤ most
