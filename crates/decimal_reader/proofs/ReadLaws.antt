-- Laws of reading digit by digit, with a cut. Assumes nothing.
use mathlib.Core.Path.{◌≡◌, refl, sym, ap, ◌∙◌}
use mathlib.Core.Bool.{Bool, true, false, cond}
use mathlib.Core.List.{List, [], ◌∷◌}
use Prim.Native.Nat.{ℕ, ◌+◌, ◌-◌, ◌*◌, ◌≤◌, ◌<◌}
use native.Mathlib.Omega.{arith}
use lib.ListN.{length, get_or, take, drop, length-drop}
use Rattle.std.specs.Prelude.{None, Result, Ok, Err}
use Rattle.std.specs.Bool.{then_some}
use Rattle.std.specs.List.{slice_range}
use Rattle.std.specs.Result.{result_ok}
use Rattle.decimal.specs.Digits.{is_digit, all_digits, plain, is_decimal, value_from, value}
use Rattle.decimal.specs.Reading.{run, cut, reading_at, read_at}
use Rattle.decimal.specs.declared.Reading.{Reading}
use Rattle.decimal.proofs.BytesLaws.{rest_at}
use Rattle.decimal.proofs.RunLaws.{run_more, run_end, length_run, run_decimal, take_run}
use Rattle.decimal.proofs.ReadLaws.{ok_read}

-- a value where a test holds is what is kept of it where it is given either way
ok_some : {X : Type 0} (b : Bool) (x : X) → then_some b x ≡ result_ok (cond b (Ok x) (Err x))
ok_some true x = refl
ok_some false x = refl

-- a number that was cut stays cut, whatever digits follow
cut_from : (v : ℕ) (bs : List ℕ) → cut (value_from (cut v) bs) ≡ cut (value_from v bs)
unfolding value_from
cut_from v [] = omega arith
cut_from v (b ∷ bs) =
    let e : cut (cut v * 10 + (b - 48)) ≡ cut (v * 10 + (b - 48)) = omega arith in
    sym (cut_from (cut v * 10 + (b - 48)) bs) ∙ ap (λ (k : ℕ). cut (value_from k bs)) e ∙ cut_from (v * 10 + (b - 48)) bs

-- a text's first i digits are read, and say v
pub record Came (s : List ℕ) (v i : ℕ) : Type 0 where
  pub small : v ≤ 10000000000
  pub says : cut (value (run s)) ≡ cut (value_from v (run (drop i s)))
  pub ends : length (run s) ≡ i + length (run (drop i s))

pub came_none : (s : List ℕ) → Came s 0 0
unfolding value
came_none s = record { small = omega arith; says = refl; ends = omega arith }

module _ (s : List ℕ) (v i : ℕ) (k : Came s v i) where
  pub came_more : (r : ℕ) → i < length s → is_digit (get_or s i 0) ≡ true → r ≡ cut (v * 10 + (get_or s i 0 - 48)) → Came s r (i + 1)
  unfolding value_from
  came_more r h d e = record {
    small = omega arith;
    says = k.says ∙ rw (run_more s i h d, e, cut_from);
    ends = k.ends ∙ rw (run_more s i h d) (omega arith);
  }

  -- where no digit stands at i, that was all
  pub came_all : run (drop i s) ≡ [] → (v ≡ cut (value (run s))) × (i ≡ length (run s))
  unfolding value_from
  came_all e = let m = k.small in (sym (k.says ∙ rw e (omega arith)), sym (k.ends ∙ rw e (omega arith)))

-- at the text's end, its bytes are all that there are
pub came_end : (s : List ℕ) (v i : ℕ) → Came s v i → i ≤ length s → length s ≤ i → (v ≡ cut (value (run s))) × (length s ≡ length (run s))
came_end s v i k l h = let w = came_all s v i k (run_end s i h) in (w.0, omega arith)

-- what is left of a text from `at` on, as code takes it, and the digits that it begins with
module _ (text : List ℕ) (at : ℕ) (rest : List ℕ) (r : rest ≡ slice_range text at (length text)) (v n : ℕ) (d : (v ≡ cut (value (run rest))) × (n ≡ length (run rest))) where
  left : rest ≡ drop at text
  left = r ∙ rest_at text at

  pub end_inside : at ≤ length text → at + n ≤ length text
  end_inside h = omega (arith, d.1, length_run rest, ap length left, length-drop at text)

  pub digits_there : (good : Bool) → good ≡ plain (take n rest) → cond good (Ok (record { value = v; end = at + n })) (Err (record { value = v; end = at + n })) ≡ read_at text at
  digits_there good g = rw (g, d.0, d.1, take_run, left, run_decimal)

  -- the same without the digits that are none
  pub read_there : (good : Bool) → good ≡ plain (take n rest) → then_some good (record { value = v; end = at + n }) ≡ reading_at text at
  read_there good g = ok_read text at (digits_there good g) (ok_some good _)

-- past the text's end no digit stands
none_said : (at : ℕ) → at + 0 ≡ at → ◌≡◌ {A = Result Reading Reading} (Err (record { value = 0; end = at })) (cond (is_decimal []) (Ok (record { value = cut (value []); end = at + 0 })) (Err (record { value = cut (value []); end = at + 0 })))
unfolding is_decimal all_digits plain value value_from
none_said at e = rw e

pub none_there : (text : List ℕ) (at : ℕ) → length text < at → Err (record { value = 0; end = at }) ≡ read_at text at
none_there text at h = rw (run_end text at (omega arith)) (none_said at (omega arith))

-- past the text's end nothing is read
pub none_read : (text : List ℕ) (at : ℕ) → length text < at → None ≡ reading_at text at
none_read text at h = ok_read text at (none_there text at h) refl
