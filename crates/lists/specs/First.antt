-- The first index at which a test holds, the only one, and what it is to be the least of some indices. Assumes nothing.
use Rattle.std.specs.Prelude.{Bool, true, false, ℕ, zero, suc, ◌+◌, ◌<◌, eqb, Option, Some, None}
use Rattle.lists.specs.Upto.{count_to, last_to}

-- k where the test holds
abbrev pub found_if : Bool → ℕ → Option ℕ
found_if true k = Some k
found_if false k = None

-- the first search's answer, or the second's where that found nothing
abbrev pub or_found : Option ℕ → Option ℕ → Option ℕ
or_found (Some k) g = Some k
or_found None g = g

-- what a search found that counted from m on
abbrev pub counted_from : ℕ → Option ℕ → Option ℕ
counted_from m (Some k) = Some (m + k)
counted_from m None = None

-- the first index below n at which the test holds
unfoldable pub first : (ℕ → Bool) → ℕ → Option ℕ
first bad zero = None
first bad (suc n) = or_found (first bad n) (found_if (bad n) n)

-- the index below n at which the test holds, where it holds at exactly one
unfoldable pub sole : (ℕ → Bool) → ℕ → Option ℕ
sole test n = found_if (eqb (count_to n test) 1) (last_to n test)

-- p is the least index below n of which P does not hold
pub record FirstFailing (n : ℕ) (P : ℕ → Type 0) (p : ℕ) : Type 0 where
  pub below : p < n
  pub fails : P p → ⊥
  pub least : (k : ℕ) → k < p → P k
