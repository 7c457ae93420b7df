-- What is stored: a word's text byte by byte, the header's line, and both. Assumes nothing.
use mathlib.Core.Path.{◌≡◌, sym, ◌∙◌, ap}
use mathlib.Core.Bool.{true, false, cond}
use mathlib.Core.List.{List, [], ◌∷◌, ◌++◌, append_assoc}
use Prim.Native.Nat.{ℕ, ◌+◌, ◌^◌, ◌≤◌, ◌<◌}
use native.Mathlib.Omega.{arith}
use lib.IntN.{ℤ, pos, negsuc, nat_abs}
use lib.ListN.{length, set, length-set}
use borrow.Author.Tests.{eq-eqb, ne_eqb}
use mir.Syntax.{w32}
use mir.Val.{SFits, to_z, of_z}
use mir.ValLaws.{to_z-of_z}
use Rattle.lists.specs.Signed.{is_zero, is_negative}
use Rattle.lists.proofs.SignedLaws.{zero_is, fits_abs}
use Rattle.lists.specs.Buffer.{Wrote}
use Rattle.lists.proofs.BufferLaws.{put_over, kept, then, wrote_next}
use Rattle.decimal.specs.Digits.{digits}
use Rattle.decimal.specs.Bytes.{line_feed, PutPromise}
use Rattle.decimal.proofs.BytesLaws.{put_wrote}
use Rattle.decimal.proofs.DigitsLaws.{digits_small, length_pos}
use Rattle.cnf.specs.Words.{zeros}
use Rattle.cnf.proofs.WordsLaws.{zero_only}
use Rattle.dimacs.specs.Text.{head, space, minus, literal_text, word_text, body, header_line, text_of}
use Rattle.dimacs.proofs.WriterLaws.{literal_size, word_length, header_length, LastByte, last_byte}

-- ---- a word's text

zero_text : (z : ℤ) → is_zero z ≡ true → word_text z ≡ 48 ∷ line_feed ∷ []
unfolding word_text literal_text is_zero
zero_text z e = rw (zero_only z e, digits_small 0 (omega arith))

-- a minus is stored, and the digits after it, or over it where the word is not negative
signed : (z : ℤ) {l l₁ l₂ : List ℕ} {at from r : ℕ} → nat_abs z < 10 ^ 20 → l₁ ≡ set l at minus → from ≡ at + cond (is_negative z) 1 0 → Wrote l₁ from (digits (nat_abs z)) l₂ r → Wrote l at (literal_text z) l₂ r
unfolding literal_text is_negative
signed (pos n) {at} {from} h e f w = let q : from ≡ at = omega arith in put_over minus (digits n) e (length_pos n h) (rw q at w)
signed (negsuc n) h e f w = then {xs = minus ∷ []} (record { list = e; next = f }) w

-- and then the space
module _ (z : ℤ) {l l₁ l₂ : List ℕ} {at from n count : ℕ} where
  word_space : is_zero z ≡ false → nat_abs z < 10 ^ 20 → at + length (word_text z) ≤ length l → l₁ ≡ set l at minus → from ≡ at + cond (is_negative z) 1 0 → n ≡ nat_abs z → PutPromise (digits n) from l₁ count l₂
      → LastByte l at (word_text z) l₂ (from + count) space
  unfolding word_text
  word_space other small fits sign after-sign number p =
      let d = ap (λ (k : ℕ). length (digits k)) number in
      let w = signed z small sign after-sign (rw number at (put_wrote (digits n) from l₁ (omega (arith, literal_size z, word_length z, ap length sign, length-set l at minus, d)) p)) in
      rw other (last_byte space w (omega (arith, w.next, word_length z)))

-- the same as code tests the word and reads it
module _ (z : ℤ) (word_fits : SFits w32 z) where
  pub zero_bytes : of_z w32 z ≡ 0 → word_text z ≡ 48 ∷ line_feed ∷ []
  zero_bytes e = zero_text z (sym (zero_is z word_fits) ∙ eq-eqb _ _ e)

  pub word_done : {l l₁ l₂ : List ℕ} {at from n count : ℕ} → (of_z w32 z ≡ 0 → ⊥) → at + length (word_text z) ≤ length l → l₁ ≡ set l at minus → from ≡ at + cond (is_negative (to_z w32 (of_z w32 z))) 1 0 → n ≡ nat_abs (to_z w32 (of_z w32 z)) → PutPromise (digits n) from l₁ count l₂
      → LastByte l at (word_text z) l₂ (from + count) space
  word_done other fits sign after-sign number p =
      let back = to_z-of_z w32 z word_fits in
      word_space z (sym (zero_is z word_fits) ∙ ne_eqb _ _ other) (omega (arith, fits_abs z word_fits)) fits sign (rw back at after-sign) (rw back at number) p

-- ---- the header's line

module _ (v clauses : ℕ) {l l₁ l₂ : List ℕ} {a n : ℕ} (fits : length (header_line v clauses) ≤ length l) (p : PutPromise head 0 l a l₁) (q : PutPromise (digits v) a l₁ n l₂) where
  head_wrote : Wrote l 0 head l₁ a
  head_wrote = wrote_next (put_wrote head 0 l (omega (arith, header_length v clauses)) p) (omega arith)

  variables_wrote : Wrote l 0 (head ++ digits v) l₂ (a + n)
  variables_wrote = then head_wrote (put_wrote (digits v) a l₁ (omega (arith, header_length v clauses, p.counts, kept head_wrote)) q)

  pub header_space : LastByte l 0 ((head ++ digits v) ++ (space ∷ [])) l₂ (a + n) space
  header_space = last_byte space variables_wrote (omega (arith, header_length v clauses, p.counts, q.counts))

  pub header_feed : {l₃ : List ℕ} {m : ℕ} → PutPromise (digits clauses) (a + n + 1) (set l₂ (a + n) space) m l₃ → LastByte l 0 (header_line v clauses) l₃ (a + n + 1 + m) line_feed
  unfolding header_line
  header_feed r =
      let w = then header_space.wrote (put_wrote (digits clauses) (a + n + 1) (set l₂ (a + n) space) (omega (arith, header_length v clauses, p.counts, q.counts, kept header_space.wrote)) r) in
      simp append_assoc at (last_byte line_feed w (omega (arith, header_length v clauses, p.counts, q.counts, r.counts)))

-- ---- the whole text: its parts

pub text_parts : (v : ℕ) (ws : List ℤ) {clauses : ℕ} → clauses ≡ zeros ws → header_line v clauses ++ body ws ≡ text_of v ws
unfolding text_of
text_parts v ws e = rw e
