-- How far a layer's targets spread, target by target; and that none strays where they keep to the range. Assumes nothing.
use Rattle.std.specs.Prelude.{None}
use Rattle.std.proofs.Common.{◌≡◌, ℕ, ◌+◌, ◌%◌, ◌^◌, ◌<◌, ◌≤◌, Bool, true, false, not, ◌&&◌, ◌||◌, ltb, leb, List, length, get_or, refl, ⊎_elim, arith, ltb-false, le-ltb}
use borrow.Author.Tests.{lt-leb}
use Rattle.lists.specs.First.{first}
use Rattle.lists.proofs.UptoLaws.{below_or_not}
use Rattle.lists.proofs.FirstLaws.{bad_none}
use Rattle.stray.specs.Stray.{stray, Spans}
use Rattle.stray.specs.declared.Range.{Range}

pub spans_start : {ends from most : ℕ} {part : List ℕ} → Spans ends part 0 from most
spans_start = record { least = λ j l. absurd (omega (arith, l)); highest = λ j l. absurd (omega (arith, l)) }

-- one target more, whose distance from `ends` is u, modulo 2 ^ 32
module _ {ends k from most from' most' u : ℕ} {part : List ℕ} (s : Spans ends part k from most) (distance : (u + ends) % 2 ^ 32 ≡ get_or part k 0) (word : u < 4294967296) (lower : (from' ≤ from) × (from' ≤ u)) (upper : (most ≤ most') × (get_or part k 0 ≤ most')) where
  far : ends ≤ get_or part k 0 → ends + from' ≤ get_or part k 0
  far h = omega (arith, distance, word, lower.1, h)

  pub spans_more : Spans ends part (k + 1) from' most'
  spans_more =
      record {
        least = λ j l. ⊎_elim (λ (h : j < k) (e : ends ≤ get_or part j 0). omega (arith, s.least j h e, lower.0)) (λ (h : k ≤ j). let q : k ≡ j = omega (arith, h, l) in rw (← q) far) (below_or_not j k);
        highest = λ j l. ⊎_elim (λ (h : j < k). omega (arith, s.highest j h, upper.0)) (λ (h : k ≤ j). let q : k ≡ j = omega (arith, h, l) in rw (← q) upper.1) (below_or_not j k);
      }

-- targets that keep to the range do not stray
module _ (r : Range) (part : List ℕ) {from most : ℕ} (s : Spans r.ends part (length part) from most) (lower : r.low ≤ r.ends + from) (upper : most < r.high) where
  none_strays : (j : ℕ) → j < length part → (b : Bool) → ltb (get_or part j 0) r.ends ≡ b → (not b && (ltb (get_or part j 0) r.low || leb r.high (get_or part j 0))) ≡ false
  none_strays j l true e = refl
  none_strays j l false e = rw (le-ltb (get_or part j 0) r.low (omega (arith, lower, s.least j l (ltb-false _ _ e))), lt-leb r.high (get_or part j 0) (omega (arith, upper, s.highest j l))) refl

  pub keeping : first (λ (j : ℕ). stray r (get_or part j 0)) (length part) ≡ None
  keeping = bad_none _ (length part) (λ j l. none_strays j l (ltb (get_or part j 0) r.ends) refl)
