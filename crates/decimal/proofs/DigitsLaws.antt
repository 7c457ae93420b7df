-- Laws of the decimal of a number: its digits step by step, how many they are, and that it is a decimal which says the number.
-- Assumes nothing.
use mathlib.Core.Path.{◌≡◌, refl, sym, ap, ◌∙◌}
use mathlib.Core.Bool.{Bool, true, false, not, cond, ◌&&◌, and-eq-true_iff}
use mathlib.Core.List.{List, [], ◌∷◌, ◌++◌}
use Prim.Native.Nat.{ℕ, zero, suc, ◌+◌, ◌-◌, ◌*◌, ◌/◌, ◌%◌, ◌^◌, ◌≤◌, ◌<◌}
use native.Mathlib.Nat.{pow-suc}
use native.Mathlib.Omega.{arith}
use native.Mathlib.Decide.{dec_lt}
use lib.Dec.{leb, ltb, eqb}
use lib.ListN.{length, length-append, get_or, get_or-append}
use borrow.Author.Tests.{lt-ltb, le-ltb, le-leb, ne_eqb, leb-true}
use Rattle.std.specs.Char.{is_ascii_digit}
use Rattle.lists.specs.Every.{Every}
use Rattle.lists.proofs.EveryLaws.{every_none, every_more}
use Rattle.decimal.specs.Digits.{is_digit, all_digits, plain, is_decimal, value_from, value, digits_with, digits}

-- ---- digit by digit

with_small : (f n : ℕ) → n < 10 → digits_with f n ≡ (48 + n) ∷ []
unfolding digits_with
with_small zero n h = refl
with_small (suc f) n h = rw (lt-ltb n 10 h, digits_with)

with_step : (f n : ℕ) → 10 ≤ n → digits_with (suc f) n ≡ digits_with f (n / 10) ++ ((48 + n % 10) ∷ [])
unfolding digits_with
with_step f n h = rw (le-ltb n 10 h, digits_with)

-- more room for digits changes nothing
with_more : (f n : ℕ) → n < 10 ^ suc f → digits_with (suc f) n ≡ digits_with f n
with_more zero n h = with_small 1 n h ∙ sym (with_small 0 n h)
with_more (suc f) n h = go (with_more f (n / 10)) (dec_lt n 10)
  where
    go : (n / 10 < 10 ^ suc f → digits_with (suc f) (n / 10) ≡ digits_with f (n / 10)) → Dec (n < 10) → digits_with (suc (suc f)) n ≡ digits_with (suc f) n
    go ih (yes l) = with_small (suc (suc f)) n l ∙ sym (with_small (suc f) n l)
    go ih (no g) =
        let big : 10 ≤ n = omega arith in
        let less : n / 10 < 10 ^ suc f = omega (arith, rw (pow-suc) at h) in
        with_step (suc f) n big ∙ ap (λ (l : List ℕ). l ++ ((48 + n % 10) ∷ [])) (ih less) ∙ sym (with_step f n big)

pub digits_small : (n : ℕ) → n < 10 → digits n ≡ (48 + n) ∷ []
unfolding digits
digits_small n h = with_small 19 n h

pub digits_step : (n : ℕ) → 10 ≤ n → n < 10 ^ 20 → digits n ≡ digits (n / 10) ++ ((48 + n % 10) ∷ [])
unfolding digits
digits_step n h l = with_step 18 n h ∙ ap (λ (l : List ℕ). l ++ ((48 + n % 10) ∷ [])) (sym (with_more 18 (n / 10) (omega arith)))

-- ---- how many

pub length_small : (n : ℕ) → n < 10 → length (digits n) ≡ 1
length_small n h = rw (digits_small n h)

pub length_step : (n : ℕ) → 10 ≤ n → n < 10 ^ 20 → length (digits n) ≡ length (digits (n / 10)) + 1
length_step n h l = rw (digits_step n h l) (length-append (digits (n / 10)) ((48 + n % 10) ∷ []))

pub length_pos : (n : ℕ) → n < 10 ^ 20 → 1 ≤ length (digits n)
length_pos n h = go (dec_lt n 10)
  where
    go : Dec (n < 10) → 1 ≤ length (digits n)
    go (yes l) = omega (arith, length_small n l)
    go (no g) = omega (arith, length_step n (omega arith) h)

-- of any number
with_most : (f n : ℕ) → length (digits_with f n) ≤ suc f
unfolding digits_with
with_most zero n = omega arith
with_most (suc f) n = go (ltb n 10) (with_most f (n / 10))
  where
    go : (t : Bool) → length (digits_with f (n / 10)) ≤ suc f → length (cond t ((48 + n) ∷ []) (digits_with f (n / 10) ++ ((48 + n % 10) ∷ []))) ≤ suc (suc f)
    go true h = omega arith
    go false h = omega (arith, length-append (digits_with f (n / 10)) ((48 + n % 10) ∷ []))

pub digits_most : (n : ℕ) → length (digits n) ≤ 20
unfolding digits
digits_most n = with_most 19 n

-- ---- the number that they say

value_snoc : (v : ℕ) (xs : List ℕ) (d : ℕ) → value_from v (xs ++ (d ∷ [])) ≡ value_from v xs * 10 + (d - 48)
unfolding value_from
value_snoc v [] d = refl
value_snoc v (x ∷ xs) d = value_snoc (v * 10 + (x - 48)) xs d

value_with : (f n : ℕ) → n < 10 ^ suc f → value_from 0 (digits_with f n) ≡ n
unfolding digits_with value_from
value_with zero n h = omega arith
value_with (suc f) n h = go (value_with f (n / 10)) (dec_lt n 10)
  where
    go : (n / 10 < 10 ^ suc f → value_from 0 (digits_with f (n / 10)) ≡ n / 10) → Dec (n < 10) → value_from 0 (digits_with (suc f) n) ≡ n
    go ih (yes l) = rw (with_small (suc f) n l) (omega arith)
    go ih (no g) =
        let less : n / 10 < 10 ^ suc f = omega (arith, rw (pow-suc) at h) in
        rw (with_step f n (omega arith), value_snoc, ih less) (omega arith)

pub value_digits : (n : ℕ) → n < 10 ^ 20 → value (digits n) ≡ n
unfolding value digits
value_digits n h = value_with 19 n h

-- ---- digits

-- as std tests it
pub as_digit : (b : ℕ) → is_digit b ≡ is_ascii_digit b
unfolding is_digit
as_digit b = refl

pub digit_range : (b : ℕ) → is_digit b ≡ true → (48 ≤ b) × (b ≤ 57)
unfolding is_digit
digit_range b h = let w = (and-eq-true_iff (leb 48 b) (leb b 57)).0 h in (leb-true 48 b w.0, leb-true b 57 w.1)

digit_of : (d : ℕ) → d < 10 → is_digit (48 + d) ≡ true
unfolding is_digit
digit_of d h = simp (le-leb 48 (48 + d) (omega arith), le-leb (48 + d) 57 (omega arith))

pub all_more : (b : ℕ) (bs : List ℕ) → is_digit b ≡ true → all_digits bs ≡ true → all_digits (b ∷ bs) ≡ true
unfolding all_digits
all_more b bs d a = rw (d, a)

pub all_first : (b : ℕ) (bs : List ℕ) → all_digits (b ∷ bs) ≡ true → (is_digit b ≡ true) × (all_digits bs ≡ true)
unfolding all_digits
all_first b bs h = go (is_digit b) h
  where
    go : (t : Bool) → (t && all_digits bs) ≡ true → (t ≡ true) × (all_digits bs ≡ true)
    go true k = (refl, k)
    go false k = (k, let z : ◌≡◌ {A = ℕ} 0 1 = cc in absurd (omega arith))

pub all_every : (ds : List ℕ) → all_digits ds ≡ true → Every (λ b. is_digit b ≡ true) ds
all_every [] h = every_none (λ b. is_digit b ≡ true)
all_every (d ∷ ds) h = let w = all_first d ds h in every_more (λ b. is_digit b ≡ true) w.0 (all_every ds w.1)

all_append : (xs ys : List ℕ) → all_digits xs ≡ true → all_digits ys ≡ true → all_digits (xs ++ ys) ≡ true
all_append [] ys h k = k
all_append (x ∷ xs) ys h k = let w = all_first x xs h in all_more x (xs ++ ys) w.0 (all_append xs ys w.1 k)

one_digit : (d : ℕ) → d < 10 → all_digits ((48 + d) ∷ []) ≡ true
unfolding all_digits
one_digit d h = rw (digit_of d h)

all_with : (f n : ℕ) → n < 10 ^ suc f → all_digits (digits_with f n) ≡ true
unfolding digits_with
all_with zero n h = one_digit n h
all_with (suc f) n h = go (all_with f (n / 10)) (dec_lt n 10)
  where
    go : (n / 10 < 10 ^ suc f → all_digits (digits_with f (n / 10)) ≡ true) → Dec (n < 10) → all_digits (digits_with (suc f) n) ≡ true
    go ih (yes l) = rw (with_small (suc f) n l) (one_digit n l)
    go ih (no g) = rw (with_step f n (omega arith)) (all_append (digits_with f (n / 10)) ((48 + n % 10) ∷ []) (ih (omega (arith, rw (pow-suc) at h))) (one_digit (n % 10) (omega arith)))

pub all_digits_lem : (n : ℕ) → n < 10 ^ 20 → all_digits (digits n) ≡ true
unfolding digits
all_digits_lem n h = all_with 19 n h

-- ---- no zero leads

first_with : (f n : ℕ) → 1 ≤ n → n < 10 ^ suc f → (1 ≤ length (digits_with f n)) × (49 ≤ get_or (digits_with f n) 0 0)
unfolding digits_with
first_with zero n p h = omega arith
first_with (suc f) n p h = go (first_with f (n / 10)) (dec_lt n 10)
  where
    go : (1 ≤ n / 10 → n / 10 < 10 ^ suc f → (1 ≤ length (digits_with f (n / 10))) × (49 ≤ get_or (digits_with f (n / 10)) 0 0)) → Dec (n < 10)
        → (1 ≤ length (digits_with (suc f) n)) × (49 ≤ get_or (digits_with (suc f) n) 0 0)
    go ih (yes l) = rw (with_small (suc f) n l) (omega arith)
    go ih (no g) =
        let k = ih (omega arith) (omega (arith, rw (pow-suc) at h)) in
        let e = get_or-append (digits_with f (n / 10)) ((48 + n % 10) ∷ []) 0 0 k.0 in
        rw (with_step f n (omega arith)) (omega (arith, length-append (digits_with f (n / 10)) ((48 + n % 10) ∷ [])))

pub plain_none : (ds : List ℕ) → length ds < 1 → plain ds ≡ false
unfolding plain
plain_none [] h = refl
plain_none (b ∷ bs) h = absurd (omega arith)

pub plain_one : (ds : List ℕ) → length ds ≡ 1 → plain ds ≡ true
unfolding plain
plain_one [] h = absurd (omega arith)
plain_one (b ∷ []) h = refl
plain_one (b ∷ c ∷ bs) h = absurd (omega arith)

pub plain_many : (ds : List ℕ) → 2 ≤ length ds → plain ds ≡ not (eqb (get_or ds 0 0) 48)
unfolding plain
plain_many [] h = absurd (omega arith)
plain_many (b ∷ []) h = absurd (omega arith)
plain_many (b ∷ c ∷ bs) h = refl

plain_digits : (n : ℕ) → n < 10 ^ 20 → plain (digits n) ≡ true
unfolding digits
plain_digits n h = go (dec_lt n 10)
  where
    go : Dec (n < 10) → plain (digits n) ≡ true
    go (yes l) = plain_one (digits n) (length_small n l)
    go (no g) =
        let k = first_with 19 n (omega arith) h in
        plain_many (digits n) (omega (arith, length_step n (omega arith) h, length_pos (n / 10) (omega arith)))
        ∙ rw (ne_eqb (get_or (digits n) 0 0) 48 (λ e. omega arith))

-- a decimal is digits
pub decimal_digits : (ds : List ℕ) → is_decimal ds ≡ true → all_digits ds ≡ true
unfolding is_decimal
decimal_digits ds h = ((and-eq-true_iff (all_digits ds) (plain ds)).0 h).0

-- the decimal of a number is a decimal
pub digits_decimal : (n : ℕ) → n < 10 ^ 20 → is_decimal (digits n) ≡ true
unfolding is_decimal
digits_decimal n h = rw (all_digits_lem n h, plain_digits n h)
