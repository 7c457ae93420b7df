-- Laws of the tokens of a text: where one begins and ends, and how code that reads the digits at it judges it. Assumes nothing.
use mathlib.Core.Path.{◌≡◌, refl, sym, ap, ◌∙◌}
use mathlib.Core.Logic.{◌⊎◌, inl, inr}
use mathlib.Core.Bool.{Bool, true, false, cond, not, ◌&&◌, and-false, and-eq-true_iff}
use mathlib.Core.List.Memᴰ
use mathlib.Core.List.{List, [], ◌∷◌, ◌++◌}
use Prim.Native.Nat.{ℕ, zero, suc, ◌+◌, ◌≤◌, ◌<◌}
use native.Mathlib.Nat.{add-zero}
use native.Mathlib.Numerals.{add-one}
use native.Mathlib.Omega.{arith}
use lib.Dec.{ltb, eqb}
use lib.IntN.{nat_abs}
use lib.ListN.{length, get_or, drop, length-drop, drop_of_length-le}
use lib.Seq.{drop-cons, drop-drop, drop-append_seam}
use borrow.Author.Tests.{eq-eqb, ne_eqb}
use Rattle.std.specs.Prelude.{Some}
use Rattle.lists.specs.Every.{Every}
use Rattle.lists.specs.Signed.{is_zero, beyond}
use Rattle.lists.proofs.UptoLaws.{below_or_not}
use Rattle.decimal.specs.Digits.{is_digit, all_digits, is_decimal, value}
use Rattle.decimal.specs.Reading.{run, cut, digits_at, decimal_at, reading_at}
use Rattle.decimal.specs.declared.Reading.{Reading}
use Rattle.decimal.proofs.DigitsLaws.{digit_range, all_every}
use Rattle.decimal.proofs.RunLaws.{run_split, run_digits, run_inside, cut_zero, cut_beyond}
use Rattle.cnf.specs.Clause.{says}
use Rattle.dimacs.specs.Tokens.{is_gap, lead, ended, Token, tokens, has_minus, unsigned, formed, word_of}
use Rattle.dimacs.specs.Rules.{tokens_from}

-- no byte is a separator
abbrev pub NoGap : List ℕ → Type 0
NoGap = Every (λ b. is_gap b ≡ false)

-- ---- where a token ends

lead_more : (b : ℕ) (bs : List ℕ) → is_gap b ≡ false → lead (b ∷ bs) ≡ b ∷ lead bs
unfolding lead
lead_more b bs g = rw (g, lead)

lead_at : (text : List ℕ) (i : ℕ) → i < length text → is_gap (get_or text i 0) ≡ false → lead (drop i text) ≡ get_or text i 0 ∷ lead (drop (i + 1) text)
lead_at text i h g = rw (add-one, drop-cons text i 0 h) (lead_more (get_or text i 0) _ g)

lead_all : (t rest : List ℕ) → NoGap t → ended rest ≡ true → lead (t ++ rest) ≡ t
unfolding lead ended
lead_all [] [] n e = refl
lead_all [] (b ∷ bs) n e = rw (e, lead)
lead_all (b ∷ t) rest n e = lead_more b (t ++ rest) (n b (Memᴰ.head refl)) ∙ ap (λ (l : List ℕ). b ∷ l) (lead_all t rest (λ x m. n x (Memᴰ.tail m)) e)

-- a token goes on as long as it can
lead_ends : (s : List ℕ) → ended (drop (length (lead s)) s) ≡ true
unfolding lead ended
lead_ends [] = refl
lead_ends (b ∷ bs) = go (is_gap b) refl (lead_ends bs)
  where
    go : (t : Bool) → is_gap b ≡ t → ended (drop (length (lead bs)) bs) ≡ true → ended (drop (length (cond t [] (b ∷ lead bs))) (b ∷ bs)) ≡ true
    go true g e = g
    go false g e = e

lead_length : (s : List ℕ) → length (lead s) ≤ length s
unfolding lead
lead_length [] = omega arith
lead_length (b ∷ bs) = go (is_gap b) (lead_length bs)
  where
    go : (t : Bool) → length (lead bs) ≤ length bs → length (cond t [] (b ∷ lead bs)) ≤ suc (length bs)
    go true h = omega arith
    go false h = omega arith

pub lead_inside : (text : List ℕ) (i : ℕ) → i < length text → i + length (lead (drop i text)) ≤ length text
lead_inside text i h = omega (arith, lead_length (drop i text), length-drop i text)

-- ---- token by token

pub tokens_gap : (inside : Bool) (at b : ℕ) (bs : List ℕ) → is_gap b ≡ true → tokens inside at (b ∷ bs) ≡ tokens false (at + 1) bs
unfolding tokens
tokens_gap inside at b bs g = rw (g, tokens)

-- inside a token: the rest of it is passed
tokens_past : (at : ℕ) (s : List ℕ) → tokens true at s ≡ tokens false (at + length (lead s)) (drop (length (lead s)) s)
unfolding tokens lead
tokens_past at [] = refl
tokens_past at (b ∷ bs) = go (is_gap b) refl (tokens_past (at + 1) bs)
  where
    go : (t : Bool) → is_gap b ≡ t → tokens true (at + 1) bs ≡ tokens false (at + 1 + length (lead bs)) (drop (length (lead bs)) bs)
        → cond t (tokens false (at + 1) bs) (tokens true (at + 1) bs) ≡ tokens false (at + length (cond t [] (b ∷ lead bs))) (drop (length (cond t [] (b ∷ lead bs))) (b ∷ bs))
    go true g e = rw (add-zero at) (sym (tokens_gap false at b bs g))
    go false g e = e ∙ ap (λ (k : ℕ). tokens false k (drop (length (lead bs)) bs)) (omega arith)

tokens_lead : (at b : ℕ) (bs : List ℕ) → is_gap b ≡ false → tokens false at (b ∷ bs) ≡ record { start = at; bytes = lead (b ∷ bs) } ∷ tokens false (at + length (lead (b ∷ bs))) (drop (length (lead (b ∷ bs))) (b ∷ bs))
unfolding tokens
tokens_lead at b bs g =
    let e : tokens false at (b ∷ bs) ≡ record { start = at; bytes = lead (b ∷ bs) } ∷ tokens true at (b ∷ bs) = rw (g, tokens) in
    e ∙ ap (λ (ts : List Token). record { start = at; bytes = lead (b ∷ bs) } ∷ ts) (tokens_past at (b ∷ bs))

pub tokens_first : (at : ℕ) (t rest : List ℕ) → 0 < length t → NoGap t → ended rest ≡ true → tokens false at (t ++ rest) ≡ record { start = at; bytes = t } ∷ tokens false (at + length t) rest
tokens_first at [] rest p n e = absurd (omega arith)
tokens_first at (b ∷ t) rest p n e = tokens_lead at b (t ++ rest) (n b (Memᴰ.head refl)) ∙ rw (lead_all (b ∷ t) rest n e, drop-append_seam (b ∷ t) rest)

-- ---- the same in a text, from the place i on

pub gap_at : (text : List ℕ) (i : ℕ) → i < length text → is_gap (get_or text i 0) ≡ true → tokens_from text i ≡ tokens_from text (i + 1)
gap_at text i h g = ap (tokens false i) (drop-cons text i 0 h) ∙ tokens_gap false i (get_or text i 0) (drop (suc i) text) g ∙ rw (add-one i)

pub token_at : (text : List ℕ) (i : ℕ) → i < length text → is_gap (get_or text i 0) ≡ false → tokens_from text i ≡ record { start = i; bytes = lead (drop i text) } ∷ tokens_from text (i + length (lead (drop i text)))
token_at text i h g = rw (← drop-drop) (rw (drop-cons text i 0 h) (tokens_lead i (get_or text i 0) _ g))

pub none_at : (text : List ℕ) (i : ℕ) → length text ≤ i → tokens_from text i ≡ []
unfolding tokens
none_at text i h = rw (drop_of_length-le text h)

-- past a token: the byte after it is a separator, or there is none
pub past_token : (text : List ℕ) (i e : ℕ) → e ≡ i + length (lead (drop i text)) → tokens_from text e ≡ tokens_from text (e + 1)
unfolding ended
past_token text i e q = go (below_or_not e (length text))
  where
    stops : ended (drop e text) ≡ true
    stops = ap (λ (n : ℕ). ended (drop n text)) q ∙ ap ended (sym (drop-drop (length (lead (drop i text))) i text)) ∙ lead_ends (drop i text)

    gap : e < length text → is_gap (get_or text e 0) ≡ true
    gap l = sym (ap ended (drop-cons text e 0 l)) ∙ stops

    go : (e < length text) ⊎ (length text ≤ e) → tokens_from text e ≡ tokens_from text (e + 1)
    go (inl l) = gap_at text e l (gap l)
    go (inr l) = none_at text e l ∙ sym (none_at text (e + 1) (omega arith))

-- a token that is `0` alone
pub nought_token : (text : List ℕ) (i : ℕ) → i < length text → get_or text i 0 ≡ 48 → ended (drop (i + 1) text) ≡ true → lead (drop i text) ≡ 48 ∷ []
unfolding is_gap
nought_token text i h z e = lead_at text i h (ap is_gap z) ∙ rw z (ap (λ (l : List ℕ). 48 ∷ l) (lead_all [] (drop (i + 1) text) (λ b m. absurd (Memᴰ.not-nil m)) e))

-- ---- a token and the digits at it

digit_not_minus : (b : ℕ) → is_digit b ≡ true → eqb b 45 ≡ false
digit_not_minus b h = let l = digit_range b h in ne_eqb b 45 (λ e. omega arith)

pub digit_not_gap : (b : ℕ) → is_digit b ≡ true → is_gap b ≡ false
unfolding is_gap
digit_not_gap b h = let l = digit_range b h in rw (ne_eqb b 32 (λ e. omega arith), ne_eqb b 9 (λ e. omega arith), ne_eqb b 13 (λ e. omega arith), ne_eqb b 10 (λ e. omega arith))

pub digits_no_gap : (ds : List ℕ) → all_digits ds ≡ true → NoGap ds
digits_no_gap ds h b m = digit_not_gap b (all_every ds h b m)

pub digits_no_minus : (ds : List ℕ) → all_digits ds ≡ true → has_minus ds ≡ false
unfolding has_minus
digits_no_minus [] h = refl
digits_no_minus (d ∷ ds) h = digit_not_minus d (all_every (d ∷ ds) h d (Memᴰ.head refl))

-- where the digits are followed by a separator or by nothing they are the whole token
lead_run : (s : List ℕ) → ended (drop (length (run s)) s) ≡ true → lead s ≡ run s
lead_run s e = ap lead (sym (run_split s)) ∙ lead_all (run s) (drop (length (run s)) s) (digits_no_gap (run s) (run_digits s)) e

-- and where they are not, the token has a byte that is no digit
lead_other : (s : List ℕ) → ended (drop (length (run s)) s) ≡ false → all_digits (lead s) ≡ false
unfolding run ended all_digits lead
lead_other [] e = e
lead_other (b ∷ bs) e = go (is_digit b) refl (lead_other bs) e
  where
    go : (t : Bool) → is_digit b ≡ t → (ended (drop (length (run bs)) bs) ≡ false → all_digits (lead bs) ≡ false)
        → ended (drop (length (cond t (b ∷ run bs) [])) (b ∷ bs)) ≡ false → all_digits (lead (b ∷ bs)) ≡ false
    go true d r k = rw (digit_not_gap b d, d) (r k)
    go false d r k = rw (k, d)

unsigned_length : (t : List ℕ) → length t ≡ cond (has_minus t) 1 0 + length (unsigned t)
unfolding has_minus unsigned
unsigned_length [] = refl
unsigned_length (b ∷ bs) = go (eqb b 45)
  where
    go : (m : Bool) → suc (length bs) ≡ cond m 1 0 + length (cond m bs (b ∷ bs))
    go true = omega arith
    go false = omega arith

-- ---- how code judges a token

-- the token at i as code reads it: m says whether its first byte is a minus, and r are its digits, which stand from `from` on
pub record TokenAt (text : List ℕ) (i : ℕ) (m : Bool) (from : ℕ) (r : Reading) : Type 0 where
  pub inside : i < length text
  pub begins : is_gap (get_or text i 0) ≡ false
  pub signed : m ≡ eqb (get_or text i 0) 45
  pub past_sign : from ≡ i + cond m 1 0
  pub reading : r ≡ digits_at text from

sign_short : (m : Bool) → cond m 1 0 ≤ 1
sign_short true = omega arith
sign_short false = omega arith

says_abs : (m : Bool) (n : ℕ) → nat_abs (says m n) ≡ n
says_abs true n = refl
says_abs false zero = refl
says_abs false (suc n) = refl

says_zero : (m : Bool) (n : ℕ) → is_zero (says m n) ≡ eqb n 0
unfolding is_zero
says_zero true zero = refl
says_zero true (suc n) = sym (ne_eqb (suc n) 0 (λ e. omega arith))
says_zero false zero = refl
says_zero false (suc n) = sym (ne_eqb (suc n) 0 (λ e. omega arith))

-- the token at a text's front, after its minus or where it has none, and the digits there
judged : (m : Bool) (s : List ℕ) → (is_decimal (lead s) && not (m && eqb (value (lead s)) 0)) ≡ (is_decimal (run s) && (ended (drop (length (run s)) s) && not (m && eqb (cut (value (run s))) 0)))
unfolding is_decimal
judged m s = go (ended (drop (length (run s)) s)) refl
  where
    go : (t : Bool) → ended (drop (length (run s)) s) ≡ t → (is_decimal (lead s) && not (m && eqb (value (lead s)) 0)) ≡ (is_decimal (run s) && (t && not (m && eqb (cut (value (run s))) 0)))
    go true e = rw (lead_run s e, cut_zero)
    go false e = rw (lead_other s e) (sym (and-false (is_decimal (run s))))

module _ {text : List ℕ} {i : ℕ} {m : Bool} {from : ℕ} {r : Reading} (k : TokenAt text i m from r) where
  has_minus_lem : has_minus (lead (drop i text)) ≡ m
  unfolding has_minus
  has_minus_lem = rw (lead_at text i k.inside k.begins) (sym k.signed)

  -- what follows the minus, if there is one, is what stands from `from` on
  unsigned_is : unsigned (lead (drop i text)) ≡ lead (drop from text)
  unfolding unsigned
  unsigned_is = rw (has_minus_lem, k.past_sign) (go m)
    where
      go : (t : Bool) → cond t (drop 1 (lead (drop i text))) (lead (drop i text)) ≡ lead (drop (i + cond t 1 0) text)
      go true = rw (lead_at text i k.inside k.begins)
      go false = rw (add-zero i)

  pub formed_as : formed (lead (drop i text)) ≡ (decimal_at text from && (ended (drop r.end text) && not (m && eqb r.value 0)))
  unfolding formed
  formed_as = rw (k.reading, unsigned_is, has_minus_lem, ← drop-drop) (judged m (drop from text))

  module _ (f : formed (lead (drop i text)) ≡ true) where
    -- a decimal is read there
    pub formed_read : reading_at text from ≡ Some (digits_at text from)
    formed_read = rw ((and-eq-true_iff (decimal_at text from) _).0 (sym formed_as ∙ f)).0

    -- the digits are all of it
    all_run : lead (drop from text) ≡ run (drop from text)
    all_run =
        let e : ended (drop r.end text) ≡ true = ((and-eq-true_iff _ _).0 ((and-eq-true_iff (decimal_at text from) _).0 (sym formed_as ∙ f)).1).0 in
        lead_run (drop from text) (rw drop-drop (rw k.reading at e))

    pub formed_ends : i + length (lead (drop i text)) ≡ r.end
    formed_ends = rw k.reading (omega (arith, rw (has_minus_lem, unsigned_is, all_run) at (unsigned_length (lead (drop i text))), k.past_sign))

    pub formed_says : word_of (lead (drop i text)) ≡ says (not m) (value (run (drop from text)))
    unfolding word_of
    formed_says = rw (has_minus_lem, unsigned_is, all_run)

    pub formed_value : r.value < 10000000000 → word_of (lead (drop i text)) ≡ says (not m) r.value
    formed_value h = formed_says ∙ ap (says (not m)) (omega (arith, ap (λ (x : Reading). x.value) k.reading))

    pub formed_beyond : (v : ℕ) → v < 10000000000 → beyond v (word_of (lead (drop i text))) ≡ ltb v r.value
    formed_beyond v h = rw (formed_says, says_abs, k.reading) (sym (cut_beyond v (value (run (drop from text))) h))

    -- it has a byte, and ends within the text
    pub formed_inside : (i < r.end) × (r.end ≤ length text)
    formed_inside = (omega (arith, formed_ends, ap length (lead_at text i k.inside k.begins)), rw k.reading (run_inside text from (omega (arith, sign_short m))))

    pub formed_zero : is_zero (word_of (lead (drop i text))) ≡ eqb r.value 0
    formed_zero = rw (formed_says, says_zero, k.reading) (sym (cut_zero (value (run (drop from text)))))

-- a token with a minus, and one without
module _ (text : List ℕ) (i : ℕ) (inside : i < length text) (begins : is_gap (get_or text i 0) ≡ false) where
  pub minus_token : get_or text i 0 ≡ 45 → TokenAt text i true (i + 1) (digits_at text (i + 1))
  minus_token e = record { inside = inside; begins = begins; signed = sym (eq-eqb (get_or text i 0) 45 e); past_sign = refl; reading = refl }

  pub plain_token : (get_or text i 0 ≡ 45 → ⊥) → TokenAt text i false i (digits_at text i)
  plain_token e = record { inside = inside; begins = begins; signed = sym (ne_eqb (get_or text i 0) 45 e); past_sign = omega arith; reading = refl }
