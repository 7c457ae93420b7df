-- Laws of the digits that stand at a place of a text, and of a number that was cut. Assumes nothing.
use mathlib.Core.Path.{◌≡◌, refl, sym, ap, ◌∙◌}
use mathlib.Core.Bool.{Bool, true, false, cond}
use mathlib.Core.List.{List, [], ◌∷◌, ◌++◌, append-nil}
use Prim.Native.Nat.{ℕ, suc, ◌+◌, ◌≤◌, ◌<◌}
use native.Mathlib.Numerals.{add-one}
use native.Mathlib.Omega.{arith}
use lib.Dec.{ltb, eqb}
use lib.ListN.{length, get_or, take, drop, length-drop, drop_of_length-le}
use lib.Seq.{drop-cons, take-append_seam}
use borrow.Author.Tests.{lt-ltb, le-ltb, eq-eqb, ne_eqb, eqb-true, eqb-false, ltb-true, ltb-false}
use Rattle.decimal.specs.Digits.{is_digit, all_digits, plain, is_decimal}
use Rattle.decimal.specs.Reading.{run, cut}
use Rattle.decimal.proofs.DigitsLaws.{all_more, all_first}

-- ---- the run at a place

pub run_more : (s : List ℕ) (i : ℕ) → i < length s → is_digit (get_or s i 0) ≡ true → run (drop i s) ≡ get_or s i 0 ∷ run (drop (i + 1) s)
unfolding run
run_more s i h d = rw (add-one, drop-cons s i 0 h, d, run)

pub run_stop : (s : List ℕ) (i : ℕ) → i < length s → is_digit (get_or s i 0) ≡ false → run (drop i s) ≡ []
unfolding run
run_stop s i h d = rw (drop-cons s i 0 h, d, run)

pub run_end : (s : List ℕ) (i : ℕ) → length s ≤ i → run (drop i s) ≡ []
unfolding run
run_end s i h = rw (drop_of_length-le s h)

-- digits, and then what follows
pub run_all : (ds rest : List ℕ) → all_digits ds ≡ true → run (ds ++ rest) ≡ ds ++ run rest
unfolding run
run_all [] rest h = refl
run_all (d ∷ ds) rest h = let w = all_first d ds h in rw (w.0, run, run_all ds rest w.1)

-- digits before a byte that is none
pub run_before : (ds : List ℕ) (b : ℕ) (rest : List ℕ) → all_digits ds ≡ true → is_digit b ≡ false → run (ds ++ (b ∷ rest)) ≡ ds
unfolding run
run_before ds b rest h e = run_all ds (b ∷ rest) h ∙ rw e (append-nil ds)

pub run_digits : (s : List ℕ) → all_digits (run s) ≡ true
unfolding run all_digits
run_digits [] = refl
run_digits (b ∷ bs) = go (is_digit b) refl (run_digits bs)
  where
    go : (t : Bool) → is_digit b ≡ t → all_digits (run bs) ≡ true → all_digits (cond t (b ∷ run bs) []) ≡ true
    go true e a = all_more b (run bs) e a
    go false e a = refl

pub length_run : (s : List ℕ) → length (run s) ≤ length s
unfolding run
length_run [] = omega arith
length_run (b ∷ bs) = go (is_digit b) (length_run bs)
  where
    go : (t : Bool) → length (run bs) ≤ length bs → length (cond t (b ∷ run bs) []) ≤ suc (length bs)
    go true h = omega arith
    go false h = omega arith

pub run_inside : (s : List ℕ) (at : ℕ) → at ≤ length s → at + length (run (drop at s)) ≤ length s
run_inside s at h = omega (arith, length_run (drop at s), length-drop at s)

-- the run, and what follows it
pub run_split : (s : List ℕ) → run s ++ drop (length (run s)) s ≡ s
unfolding run
run_split [] = refl
run_split (b ∷ bs) = go (is_digit b) (run_split bs)
  where
    go : (t : Bool) → run bs ++ drop (length (run bs)) bs ≡ bs → cond t (b ∷ run bs) [] ++ drop (length (cond t (b ∷ run bs) [])) (b ∷ bs) ≡ b ∷ bs
    go true e = ap (λ (l : List ℕ). b ∷ l) e
    go false e = refl

pub take_run : (s : List ℕ) → take (length (run s)) s ≡ run s
take_run s = ap (take (length (run s))) (sym (run_split s)) ∙ take-append_seam (run s) (drop (length (run s)) s)

-- digits are a decimal where no zero leads
pub run_decimal : (s : List ℕ) → is_decimal (run s) ≡ plain (run s)
unfolding is_decimal
run_decimal s = rw (run_digits s)

-- ---- the cut

-- a number that was cut is 0 where the number is, and beyond what lies below the cut where the number is
pub cut_zero : (n : ℕ) → eqb (cut n) 0 ≡ eqb n 0
cut_zero n = go (eqb n 0) refl
  where
    go : (t : Bool) → eqb n 0 ≡ t → eqb (cut n) 0 ≡ t
    go true e = let h = eqb-true n 0 e in eq-eqb (cut n) 0 (omega arith)
    go false e = ne_eqb (cut n) 0 (λ h. eqb-false n 0 e (omega arith))

pub cut_beyond : (v n : ℕ) → v < 10000000000 → ltb v (cut n) ≡ ltb v n
cut_beyond v n l = go (ltb v n) refl
  where
    go : (t : Bool) → ltb v n ≡ t → ltb v (cut n) ≡ t
    go true e = let h = ltb-true v n e in lt-ltb v (cut n) (omega arith)
    go false e = let h = ltb-false v n e in le-ltb v (cut n) (omega arith)
