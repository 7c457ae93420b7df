-- How code judges one token: by a number other than 0 that stands at it, or by any number; and what the judgement tells.
-- Assumes nothing.
use Rattle.std.specs.Prelude.{Ok, Err, Result}
use mathlib.Core.Path.{◌≡◌, refl, sym, ap, ◌∙◌, subst}
use mathlib.Core.Logic.{◌⊎◌, inl, inr}
use mathlib.Core.Bool.{Bool, true, false, cond, not, ◌&&◌, and-true, and-false, false≢true, true≢false}
use mathlib.Core.List.{List, []}
use Prim.Native.Nat.{ℕ, ◌+◌, ◌≤◌, ◌<◌}
use native.Mathlib.Omega.{arith}
use lib.Dec.{ltb, eqb}
use lib.IntN.{pos}
use lib.ListN.{length, get_or, drop, drop_of_length-le}
use Rattle.std.specs.Prelude.{Some, None}
use lib.Seq.{drop-cons}
use borrow.Author.Tests.{le-ltb, ltb-false, ne_eqb}
use Rattle.lists.specs.Signed.{is_zero, beyond}
use Rattle.lists.proofs.UptoLaws.{decide}
use Rattle.decimal.specs.Digits.{is_digit, is_decimal, all_digits, plain}
use Rattle.decimal.specs.Reading.{digits_at, decimal_at, reading_at, is_positive_at, positive_at}
use Rattle.decimal.specs.declared.Reading.{Reading}
use Rattle.decimal.proofs.RunLaws.{run_stop}
use Rattle.decimal.proofs.PositiveLaws.{positive_plain}
use Rattle.refusal.specs.Rules.{refusal}
use Rattle.refusal.specs.declared.Refusal.{Refusal}
use Rattle.dimacs.specs.Tokens.{is_gap, lead, ended, has_minus, unsigned, formed, word_of, Good}
use Rattle.dimacs.proofs.BodyLaws.{nought, literal_formed, literal_says}
use Rattle.dimacs.proofs.TokenLaws.{digit_not_gap, nought_token, TokenAt, plain_token, formed_as, formed_ends, formed_beyond, formed_zero}
use Rattle.token.specs.Judged.{judged_as, token_judged, read_judged}
use Rattle.token.specs.declared.Word.{Word}

-- ---- what the judgement tells

abbrev Told : Bool → Bool → Bool → ℕ → ℕ → Result Word Refusal → Type 0
Told good far zeroed at end (Err r) = ((good ≡ false) × (r ≡ refusal 18 at)) ⊎ ((good ≡ true) × (far ≡ true) × (r ≡ refusal 14 at))
Told good far zeroed at end (Ok w) = (good ≡ true) × (far ≡ false) × (zeroed ≡ w.closes) × (w.end ≡ end)

told : (good far zeroed : Bool) (at end : ℕ) → Told good far zeroed at end (judged_as good far zeroed at end)
told true true zeroed at end = inr (refl, refl, refl)
told true false zeroed at end = (refl, refl, refl, refl)
told false far zeroed at end = inl (refl, refl)

-- of the token at i, for variables up to v
module _ (v : ℕ) (text : List ℕ) (i : ℕ) where
  abbrev pub TokenTold : Result Word Refusal → Type 0
  TokenTold = Told (formed (lead (drop i text))) (beyond v (word_of (lead (drop i text)))) (is_zero (word_of (lead (drop i text)))) i (i + length (lead (drop i text)))

  pub token_told : (j : Result Word Refusal) → token_judged v text i ≡ j → TokenTold j
  token_told j e = subst TokenTold e (told (formed (lead (drop i text))) (beyond v (word_of (lead (drop i text)))) (is_zero (word_of (lead (drop i text)))) i (i + length (lead (drop i text))))

  pub told_good : (w : Word) → TokenTold (Ok w) → Good v (lead (drop i text))
  told_good w t = record { is_formed = t.0; in_range = ltb-false v _ t.1 }

-- ---- by digits: of the token, or of what code reads of it

same : (at : ℕ) (f g : Bool) {b b' z z' : Bool} {e e' : ℕ} → f ≡ g → (f ≡ true → (b ≡ b') × (z ≡ z') × (e ≡ e')) → judged_as f b z at e ≡ judged_as g b' z' at e'
same at true true p h = let q = h refl in rw (q.0, q.1, q.2)
same at true false p h = absurd (true≢false p)
same at false true p h = absurd (false≢true p)
same at false false p h = refl

-- code asks one after the other whether digits are a decimal, end a token, and do not say 0 where they must not
last_first : (g e z : Bool) → (g && (e && z)) ≡ ((g && z) && e)
last_first true true z = sym (and-true z)
last_first true false z = sym (and-false z)
last_first false e z = refl

module _ {text : List ℕ} {i : ℕ} {m : Bool} {from : ℕ} (k : TokenAt text i m from (digits_at text from)) (v : ℕ) (h : v < 10000000000) where
  abbrev r : Reading
  r = digits_at text from

  -- where the digits make it well formed
  by_digits : (g : Bool) → formed (lead (drop i text)) ≡ (g && ended (drop r.end text)) → token_judged v text i ≡ read_judged v text i (cond g (Some r) None)
  by_digits g f = same i (formed (lead (drop i text))) (g && ended (drop r.end text)) f (λ w. (formed_beyond k w v h, formed_zero k w, formed_ends k w)) ∙ as_read g
    where
      as_read : (t : Bool) → judged_as (t && ended (drop r.end text)) (ltb v r.value) (eqb r.value 0) i r.end ≡ read_judged v text i (cond t (Some r) None)
      as_read true = refl
      as_read false = refl

  by_positive : is_positive_at text from ≡ (decimal_at text from && not (m && eqb r.value 0)) → token_judged v text i ≡ read_judged v text i (positive_at text from)
  by_positive q = by_digits (is_positive_at text from) (formed_as k ∙ last_first (decimal_at text from) (ended (drop r.end text)) (not (m && eqb r.value 0)) ∙ rw q)

-- ---- where a token stands: a byte other than `0`; or a separator, or nothing

module _ (text : List ℕ) (i v : ℕ) (h : v < 10000000000) where
  none_judged : lead (drop i text) ≡ [] → token_judged v text i ≡ Err (refusal 18 i)
  unfolding formed unsigned has_minus is_decimal all_digits plain
  none_judged e = rw e

  pub end_judged : length text ≤ i → token_judged v text i ≡ Err (refusal 18 i)
  unfolding lead
  end_judged l = none_judged (rw (drop_of_length-le text l))

  module _ (inside : i < length text) where
    abbrev byte : ℕ
    byte = get_or text i 0

    -- a separator: neither a minus nor a digit, and no token
    module _ (g : is_gap byte ≡ true) where
      gap_lead : lead (drop i text) ≡ []
      unfolding lead
      gap_lead = rw (drop-cons text i 0 inside, g, lead)

      gap_no_digit : is_digit byte ≡ false
      gap_no_digit = go (decide (is_digit byte))
        where
          go : (is_digit byte ≡ true) ⊎ (is_digit byte ≡ false) → is_digit byte ≡ false
          go (inl d) = absurd (true≢false (sym g ∙ digit_not_gap byte d))
          go (inr d) = d

      gap_no_minus : eqb byte 45 ≡ false
      unfolding is_gap
      gap_no_minus = ne_eqb byte 45 (λ e. true≢false (sym g ∙ ap is_gap e))

      gap_none : positive_at text i ≡ None
      unfolding is_decimal all_digits plain
      gap_none = rw (run_stop text i inside gap_no_digit)

    -- a byte other than `0`: the digits stand after it where it is a minus, or else at it
    module _ (z : byte ≡ 48 → ⊥) (from : ℕ) (f : from ≡ i + cond (eqb byte 45) 1 0) where
      at_it : eqb byte 45 ≡ false → from ≡ i
      at_it e = f ∙ rw e (omega arith)

      led : (m : Bool) → eqb byte 45 ≡ m → is_positive_at text from ≡ (decimal_at text from && not (m && eqb (digits_at text from).value 0))
      led true e = refl
      led false e = rw (at_it e) (positive_plain text i z ∙ sym (and-true (decimal_at text i)))

      pub digits_judged : token_judged v text i ≡ read_judged v text i (positive_at text from)
      digits_judged = go (decide (is_gap byte))
        where
          go : (is_gap byte ≡ true) ⊎ (is_gap byte ≡ false) → token_judged v text i ≡ read_judged v text i (positive_at text from)
          go (inl g) = none_judged (gap_lead g) ∙ rw (at_it (gap_no_minus g), gap_none g)
          go (inr g) = by_positive (record { inside = inside; begins = g; signed = refl; past_sign = f; reading = refl }) v h (led (eqb byte 45) refl)

    -- `0`: alone, or with more after it
    module _ (z : byte ≡ 48) where
      pub nought_judged : ended (drop (i + 1) text) ≡ true → token_judged v text i ≡ Ok (record { closes = true; end = i + 1 })
      unfolding is_zero
      nought_judged e =
          let t = nought_token text i inside z e in
          let l = t ∙ sym nought in
          let w : word_of (lead (drop i text)) ≡ pos 0 = ap word_of l ∙ literal_says (pos 0) (omega arith) in
          let g : formed (lead (drop i text)) ≡ true = ap formed l ∙ literal_formed (pos 0) (omega arith) in
          rw (g, w, t, le-ltb v 0 (omega arith))

      here : TokenAt text i false i (digits_at text i)
      unfolding is_gap
      here = plain_token text i inside (ap is_gap z) (λ e. omega (arith, z, e))

      pub zero_judged : token_judged v text i ≡ read_judged v text i (reading_at text i)
      zero_judged = by_digits here v h (decimal_at text i) (formed_as here ∙ ap (λ (b : Bool). decimal_at text i && b) (and-true (ended (drop (digits_at text i).end text))))
