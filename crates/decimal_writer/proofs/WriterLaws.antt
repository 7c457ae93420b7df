-- Laws of writing a decimal: its digits stored from the last on. Assumes nothing.
use mathlib.Core.Path.{◌≡◌, sym, ap, ◌∙◌}
use mathlib.Core.List.{List, [], ◌∷◌, ◌++◌, append-nil}
use Prim.Native.Nat.{ℕ, ◌+◌, ◌-◌, ◌/◌, ◌%◌, ◌^◌, ◌≤◌, ◌<◌}
use native.Mathlib.Omega.{arith}
use native.Mathlib.Decide.{dec_lt}
use lib.ListN.{length, take, drop, set, drop_of_length-le}
use lib.Seq.{append_snoc, take_all}
use Rattle.std.proofs.lemmas.List.{drop-set}
use Rattle.decimal.specs.Digits.{digits}
use Rattle.decimal.proofs.DigitsLaws.{digits_small, digits_step, length_small, length_step}

-- the digits of n past the first i are stored, and these are those of m
pub record Storing (n : ℕ) (part : List ℕ) (m i : ℕ) : Type 0 where
  pub less : m ≤ n
  pub count : 0 < i → length (digits m) ≡ i
  pub parts : digits n ≡ take i (digits m) ++ drop i part

pub storing_none : (n : ℕ) (part : List ℕ) → length part ≡ length (digits n) → Storing n part n (length part)
storing_none n part e =
    let all : take (length part) (digits n) ≡ digits n = take_all (length part) (digits n) (omega arith) in
    let nothing : drop (length part) part ≡ [] = drop_of_length-le part (omega arith) in
    record { less = omega arith; count = λ _. sym e; parts = sym (append-nil (digits n)) ∙ rw (all, nothing) }

module _ {n : ℕ} {part : List ℕ} {m i : ℕ} (fits : n < 10 ^ 20) (k : Storing n part m i) where
  pub storing_more : 0 < i → i ≤ length part → Storing n (set part (i - 1) (48 + m % 10)) (m / 10) (i - 1)
  storing_more p h = go (dec_lt m 10)
    where
      v : ℕ
      v = 48 + m % 10

      stored : drop (i - 1) (set part (i - 1) v) ≡ v ∷ drop i part
      stored = let e : i - 1 + 1 ≡ i = omega arith in drop-set part (i - 1) v (omega arith) ∙ ap (λ (j : ℕ). v ∷ drop j part) e

      all : take i (digits m) ≡ digits m
      all = take_all i (digits m) (omega (arith, k.count p))

      go : Dec (m < 10) → Storing n (set part (i - 1) v) (m / 10) (i - 1)
      go (yes l) =
          let one : i - 1 ≡ 0 = omega (arith, k.count p, length_small m l) in
          let last : 48 + m ≡ v = omega arith in
          let none : take (i - 1) (digits (m / 10)) ≡ [] = rw one in
          record {
            less = omega arith;
            count = λ q. absurd (omega arith);
            parts = k.parts ∙ rw (all, digits_small m l, last, stored, none);
          }
      go (no g) =
          let s = length_step m (omega arith) (omega (arith, k.less)) in
          let front : take (i - 1) (digits (m / 10)) ≡ digits (m / 10) = take_all (i - 1) (digits (m / 10)) (omega (arith, k.count p)) in
          record {
            less = omega (arith, k.less);
            count = λ q. omega (arith, k.count p);
            parts = k.parts ∙ rw (all, digits_step m (omega arith) (omega (arith, k.less)), append_snoc, stored, front);
          }

  pub storing_all : i ≤ 0 → part ≡ digits n
  storing_all h = let e : i ≡ 0 = omega arith in sym (k.parts ∙ rw e)
