-- Laws of reading up to eight digits, which no cut shortens. Assumes nothing.
use mathlib.Core.Path.{◌≡◌, refl, sym, ap, ◌∙◌}
use mathlib.Core.Bool.{Bool, true, false, cond}
use mathlib.Core.List.{List, [], ◌∷◌}
use Prim.Native.Nat.{ℕ, zero, suc, ◌+◌, ◌-◌, ◌*◌, ◌^◌, ◌≤◌, ◌<◌}
use native.Mathlib.Nat.{pow-suc, pow-le-pow_right}
use native.Mathlib.Numerals.{add-one}
use native.Mathlib.Omega.{arith}
use lib.ListN.{length, get_or, take, drop}
use Rattle.std.specs.Prelude.{Some}
use Rattle.decimal.specs.Digits.{is_digit, value}
use Rattle.decimal.specs.Reading.{run, cut, reading_at, positive_at, leads_at}
use Rattle.std.specs.List.{slice_range}
use Rattle.decimal.proofs.BytesLaws.{rest_at}
use Rattle.decimal.proofs.DigitsLaws.{digit_range}
use Rattle.decimal.proofs.PositiveLaws.{positive_led}
use Rattle.decimal_reader.proofs.ReadLaws.{Came, came_none, came_more, came_all}

-- k digits say less than 10 ^ k
pub record Few (s : List ℕ) (v k : ℕ) : Type 0 where
  pub count : k ≤ 8
  pub less : v < 10 ^ k
  pub came : Came s v k

pub few_none : (s : List ℕ) → Few s 0 0
few_none s = record { count = omega arith; less = omega arith; came = came_none s }

pub few_small : {s : List ℕ} {v k : ℕ} → Few s v k → v < 100000000
few_small {k = k} f = omega (arith, f.less, pow-le-pow_right {n = 10} (omega arith) f.count)

pub few_more : (s : List ℕ) (v k : ℕ) → Few s v k → k < 8 → k < length s → is_digit (get_or s k 0) ≡ true → Few s (v * 10 + (get_or s k 0 - 48)) (k + 1)
few_more s v k f h l d =
    let r = digit_range (get_or s k 0) d in
    let m = few_small f in
    record {
      count = omega arith;
      less = rw (add-one k) (omega (arith, f.less, pow-suc 10 k));
      came = came_more s v k f.came (v * 10 + (get_or s k 0 - 48)) l d (omega arith);
    }

pub few_all : (s : List ℕ) (v k : ℕ) → Few s v k → run (drop k s) ≡ [] → (v ≡ cut (value (run s))) × (k ≡ length (run s))
few_all s v k f e = came_all s v k f.came e

-- where fewer digits than n stand among the first n bytes, they are all that stand first
run_front : (n : ℕ) (s : List ℕ) → length (run (take n s)) < n → run (take n s) ≡ run s
unfolding run
run_front zero s h = absurd (omega arith)
run_front (suc n) [] h = refl
run_front (suc n) (b ∷ bs) h = go (is_digit b) (run_front n bs) h
  where
    go : (t : Bool) → (length (run (take n bs)) < n → run (take n bs) ≡ run bs) → length (cond t (b ∷ run (take n bs)) []) < suc n → cond t (b ∷ run (take n bs)) [] ≡ cond t (b ∷ run bs) []
    go true ih k = ap (λ (l : List ℕ). b ∷ l) (ih (omega arith))
    go false ih k = refl

-- where a digit other than 0 leads, they are the number
module _ (text : List ℕ) (at : ℕ) (h : leads_at text at ≡ true) where
  pub few_read : (front : List ℕ) (v n : ℕ) → front ≡ take 8 (slice_range text at (length text)) → (v ≡ cut (value (run front))) × (n ≡ length (run front)) × (n < 8) → Some (record { value = v; end = at + n }) ≡ positive_at text at
  few_read front v n f d =
      let e = f ∙ ap (take 8) (rest_at text at) in
      let short : length (run (take 8 (drop at text))) < 8 = omega (arith, d.1, d.2, ap (λ (l : List ℕ). length (run l)) e) in
      let r : run front ≡ run (drop at text) = ap run e ∙ run_front 8 (drop at text) short in
      sym ((positive_led text at h).0 ∙ rw (d.0, d.1, r))

  pub many_read : reading_at text at ≡ positive_at text at
  many_read = let w = positive_led text at h in w.1 ∙ sym w.0
