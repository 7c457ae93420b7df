-- Laws of a decimal of a number other than 0: what leads it. Assumes nothing.
use mathlib.Core.Path.{◌≡◌, refl, sym, ◌∙◌}
use mathlib.Core.Logic.{◌⊎◌, inl, inr}
use mathlib.Core.Bool.{Bool, true, false, not, ◌&&◌, and-true, and-false, and-eq-true_iff}
use mathlib.Core.List.{List, [], ◌∷◌}
use Prim.Native.Nat.{ℕ, ◌+◌, ◌-◌, ◌*◌, ◌≤◌, ◌<◌}
use native.Mathlib.Omega.{arith}
use lib.Dec.{leb, ltb, eqb}
use lib.ListN.{length, get_or, drop}
use Rattle.std.specs.Prelude.{Some, None}
use borrow.Author.Tests.{lt-ltb, le-leb, leb-true, leb-false, ltb-true, ne_eqb}
use Rattle.lists.proofs.UptoLaws.{decide, below_or_not}
use Rattle.decimal.specs.Digits.{is_digit, all_digits, plain, is_decimal, value_from, value}
use Rattle.decimal.specs.Reading.{run, cut, digits_at, decimal_at, reading_at, leads_at, is_positive_at, positive_at}
use Rattle.decimal.proofs.DigitsLaws.{digit_range}
use Rattle.decimal.proofs.RunLaws.{run_more, run_stop, run_end, run_decimal}

-- ---- what leads it

value_rises : (v : ℕ) (bs : List ℕ) → v ≤ value_from v bs
unfolding value_from
value_rises v [] = omega arith
value_rises v (b ∷ bs) = omega (arith, value_rises (v * 10 + (b - 48)) bs)

-- digits are a decimal of a number other than 0
abbrev is_positive : List ℕ → Bool
is_positive ds = is_decimal ds && not (eqb (cut (value ds)) 0)

led_plain : (b : ℕ) (bs : List ℕ) → 49 ≤ b → plain (b ∷ bs) ≡ true
unfolding plain
led_plain b [] h = refl
led_plain b (c ∷ bs) h = rw (ne_eqb b 48 (λ e. omega arith))

led_some : (b : ℕ) (bs : List ℕ) → 49 ≤ b → eqb (cut (value (b ∷ bs))) 0 ≡ false
unfolding value value_from
led_some b bs h = ne_eqb (cut (value_from (0 * 10 + (b - 48)) bs)) 0 (λ e. omega (arith, value_rises (0 * 10 + (b - 48)) bs))

nothing_decimal : is_decimal [] ≡ false
unfolding is_decimal plain all_digits
nothing_decimal = refl

nothing_positive : is_positive [] ≡ false
nothing_positive = rw nothing_decimal

zero_led : (bs : List ℕ) → is_positive (48 ∷ bs) ≡ false
unfolding is_decimal plain value value_from
zero_led [] = and-false (all_digits (48 ∷ []) && true)
zero_led (b ∷ bs) = rw (and-false (all_digits (48 ∷ b ∷ bs)))

module _ (s : List ℕ) (at : ℕ) where
  -- a number other than 0 is led by a digit other than 0
  pub leads_inside : leads_at s at ≡ true → at < length s
  leads_inside h = ltb-true at (length s) ((and-eq-true_iff (ltb at (length s)) _).0 h).0

  led : leads_at s at ≡ true → (decimal_at s at ≡ true) × (eqb (digits_at s at).value 0 ≡ false)
  unfolding is_digit
  led h =
      let w = (and-eq-true_iff (ltb at (length s)) _).0 h in
      let v = (and-eq-true_iff (leb 49 (get_or s at 0)) (leb (get_or s at 0) 57)).0 w.1 in
      let l = leb-true 49 (get_or s at 0) v.0 in
      let d : is_digit (get_or s at 0) ≡ true = rw (le-leb 48 (get_or s at 0) (omega arith)) v.1 in
      let r = run_more s at (leads_inside h) d in
      (run_decimal (drop at s) ∙ rw r (led_plain (get_or s at 0) (run (drop (at + 1) s)) l), rw r (led_some (get_or s at 0) (run (drop (at + 1) s)) l))

  pub positive_led : leads_at s at ≡ true → (positive_at s at ≡ Some (digits_at s at)) × (reading_at s at ≡ Some (digits_at s at))
  positive_led h = let w = led h in (rw (w.0, w.1), rw w.0)

  zero_leads : leads_at s at ≡ false → at < length s → is_digit (get_or s at 0) ≡ true → get_or s at 0 ≡ 48
  zero_leads h l d =
      let w = digit_range (get_or s at 0) d in
      let q : (leb 49 (get_or s at 0) && true) ≡ false = rw (lt-ltb at (length s) l, le-leb (get_or s at 0) 57 w.1) at h in
      omega (arith, w.0, leb-false 49 (get_or s at 0) (sym (and-true (leb 49 (get_or s at 0))) ∙ q))

  pub positive_none : leads_at s at ≡ false → positive_at s at ≡ None
  positive_none h = rw (not_positive (below_or_not at (length s)))
    where
      at_byte : at < length s → (t : Bool) → is_digit (get_or s at 0) ≡ t → is_positive (run (drop at s)) ≡ false
      at_byte l false d = rw (run_stop s at l d) nothing_positive
      at_byte l true d =
          rw (run_more s at l d, zero_leads h l d) (zero_led (run (drop (at + 1) s)))

      not_positive : (at < length s) ⊎ (length s ≤ at) → is_positive (run (drop at s)) ≡ false
      not_positive (inl l) = at_byte l (is_digit (get_or s at 0)) refl
      not_positive (inr l) = rw (run_end s at l) nothing_positive

-- where no 0 leads, a decimal's number is other than 0
module _ (s : List ℕ) (at : ℕ) where
  pub positive_plain : (get_or s at 0 ≡ 48 → ⊥) → is_positive_at s at ≡ decimal_at s at
  positive_plain n = go (decide (leads_at s at))
    where
      go : (leads_at s at ≡ true) ⊎ (leads_at s at ≡ false) → is_positive_at s at ≡ decimal_at s at
      go (inl h) = let w = led s at h in rw (w.0, w.1)
      go (inr h) = rw (not_decimal (below_or_not at (length s)))
        where
          at_byte : at < length s → (t : Bool) → is_digit (get_or s at 0) ≡ t → decimal_at s at ≡ false
          at_byte l false d = rw (run_stop s at l d) nothing_decimal
          at_byte l true d = absurd (n (zero_leads s at h l d))

          not_decimal : (at < length s) ⊎ (length s ≤ at) → decimal_at s at ≡ false
          not_decimal (inl l) = at_byte l (is_digit (get_or s at 0)) refl
          not_decimal (inr l) = rw (run_end s at l) nothing_decimal
