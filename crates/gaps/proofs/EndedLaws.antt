-- Where a token ends: at a separator, or where the text does. Assumes nothing.
use mathlib.Core.Path.{◌≡◌}
use mathlib.Core.Bool.{true}
use mathlib.Core.List.{List}
use Prim.Native.Nat.{ℕ, ◌≤◌, ◌<◌}
use lib.ListN.{length, get_or, drop, drop_of_length-le}
use lib.Seq.{drop-cons}
use Rattle.dimacs.specs.Tokens.{is_gap, ended}

pub ended_inside : (text : List ℕ) (at : ℕ) → at < length text → ended (drop at text) ≡ is_gap (get_or text at 0)
unfolding ended
ended_inside text at h = rw (drop-cons text at 0 h)

pub ended_past : (text : List ℕ) (at : ℕ) → length text ≤ at → ended (drop at text) ≡ true
unfolding ended
ended_past text at h = rw (drop_of_length-le text h)
