-- Laws of a field of a text: a decimal, and a byte after it that is no digit. Assumes nothing.
use mathlib.Core.Path.{◌≡◌, refl, sym, ap, ◌∙◌}
use mathlib.Core.Bool.{Bool, true, false, cond, ◌&&◌}
use mathlib.Core.List.{List, [], ◌∷◌, ◌++◌}
use Prim.Native.Nat.{ℕ, ◌+◌, ◌≤◌}
use lib.ListN.{length, drop}
use Rattle.std.specs.Prelude.{Option, Some, None}
use lib.Seq.{drop-drop, drop-append_seam}
use Rattle.decimal.specs.Digits.{is_digit, is_decimal}
use Rattle.decimal.specs.Bytes.{starts_with, has_at}
use Rattle.decimal.specs.Reading.{run, digits_at, decimal_at, reading_at, field_at, field_of}
use Rattle.decimal.specs.declared.Reading.{Reading}
use Rattle.decimal.proofs.DigitsLaws.{decimal_digits}
use Rattle.decimal.proofs.RunLaws.{run_before, run_split}
use Rattle.decimal.proofs.BytesLaws.{has_inside, starts_with_lem, with_start}

module _ (text : List ℕ) (at b : ℕ) where
  -- what is left past n bytes and one more
  past_one : (n : ℕ) → drop (at + n + 1) text ≡ drop 1 (drop n (drop at text))
  past_one n = sym (ap (drop 1) (drop-drop n at text) ∙ drop-drop 1 (at + n) text)

  -- what is read where a decimal stands, and b is no digit
  pub field_read : (ds rest : List ℕ) → is_decimal ds ≡ true → is_digit b ≡ false → drop at text ≡ ds ++ (b ∷ rest)
      → (run (drop at text) ≡ ds) × (has_at text (at + length ds) (b ∷ []) ≡ true) × (drop (at + length ds + 1) text ≡ rest)
  field_read ds rest h n e =
      let s : drop (length ds) (drop at text) ≡ b ∷ rest = ap (drop (length ds)) e ∙ drop-append_seam ds (b ∷ rest) in (
        ap run e ∙ run_before ds b rest (decimal_digits ds h) n,
        ap (starts_with (b ∷ [])) (sym (drop-drop (length ds) at text) ∙ s) ∙ with_start (b ∷ []) rest,
        past_one (length ds) ∙ ap (drop 1) s,
      )

  -- what stands there where b follows the digits that are read
  pub read_field : has_at text (at + length (run (drop at text))) (b ∷ []) ≡ true → drop at text ≡ run (drop at text) ++ (b ∷ drop (at + length (run (drop at text)) + 1) text)
  read_field h =
      let n : ℕ = length (run (drop at text)) in
      sym (run_split (drop at text))
      ∙ ap (λ (l : List ℕ). run (drop at text) ++ l) (drop-drop n at text ∙ starts_with_lem (b ∷ []) (drop (at + n) text) h ∙ ap (λ (l : List ℕ). b ∷ l) (drop-drop 1 (at + n) text))

-- a field, by its digits and the byte after them
pub field_splits : (text : List ℕ) (at b : ℕ) → field_at text (reading_at text at) b ≡ (decimal_at text at && has_at text (digits_at text at).end (b ∷ []))
field_splits text at b = go (decimal_at text at)
  where
    go : (t : Bool) → field_at text (cond t (Some (digits_at text at)) None) b ≡ (t && has_at text (digits_at text at).end (b ∷ []))
    go true = refl
    go false = refl

-- a field that was read at `at`: its digits are a decimal, and b follows them, inside the text
pub record Field (text : List ℕ) (at b : ℕ) (read : Reading) : Type 0 where
  pub stands : field_at text (reading_at text at) b ≡ true
  pub said : read ≡ digits_at text at
  pub inside : read.end + 1 ≤ length text

module _ (text : List ℕ) (at b : ℕ) where
  pub field_found : {q : Option Reading} {read : Reading} → q ≡ reading_at text at → Some read ≡ field_of text q b → Field text at b read
  field_found {read = read} p e = go (decimal_at text at) (e ∙ ap (λ (q : Option Reading). field_of text q b) p) refl
    where
      go : (t : Bool) → Some read ≡ field_of text (cond t (Some (digits_at text at)) None) b → decimal_at text at ≡ t → Field text at b read
      go true k d = at_byte (has_at text (digits_at text at).end (b ∷ [])) k refl
        where
          at_byte : (f : Bool) → Some read ≡ cond f (Some (digits_at text at)) None → has_at text (digits_at text at).end (b ∷ []) ≡ f → Field text at b read
          at_byte true q f = let s : read ≡ digits_at text at = cc in record { stands = field_splits text at b ∙ rw (d, f); said = s; inside = rw s (has_inside text (digits_at text at).end b [] f) }
          at_byte false q f = cc
      go false k d = cc

  pub field_missing : {q : Option Reading} → q ≡ reading_at text at → None ≡ field_of text q b → field_at text (reading_at text at) b ≡ false
  field_missing p e = go (decimal_at text at) (e ∙ ap (λ (q : Option Reading). field_of text q b) p)
    where
      go : (t : Bool) → None ≡ field_of text (cond t (Some (digits_at text at)) None) b → field_at text (cond t (Some (digits_at text at)) None) b ≡ false
      go true k = at_byte (has_at text (digits_at text at).end (b ∷ [])) k
        where
          at_byte : (f : Bool) → None ≡ cond f (Some (digits_at text at)) None → f ≡ false
          at_byte true q = cc
          at_byte false q = refl
      go false k = refl
