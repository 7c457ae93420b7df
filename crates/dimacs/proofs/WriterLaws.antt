-- How long the text is that the writer writes, and a last byte that is stored. Assumes nothing.
use mathlib.Core.Path.{◌≡◌}
use mathlib.Core.Bool.{cond}
use mathlib.Core.List.{List, [], ◌∷◌, ◌++◌}
use Prim.Native.Nat.{ℕ, ◌+◌, ◌*◌, ◌≤◌, ◌<◌}
use native.Mathlib.Omega.{arith}
use lib.IntN.{ℤ, pos, negsuc, nat_abs}
use lib.ListN.{length, set, length-append}
use Rattle.lists.specs.Signed.{is_zero, is_negative}
use Rattle.lists.specs.Buffer.{Wrote}
use Rattle.lists.proofs.UptoLaws.{at_most_one, sum_most, list_length}
use Rattle.lists.proofs.BufferLaws.{put, kept, then}
use Rattle.decimal.specs.Bytes.{line_feed}
use Rattle.decimal.specs.Digits.{digits}
use Rattle.decimal.proofs.WriterLaws.{length_most}
use Rattle.cnf.specs.Words.{zeros}
use Rattle.cnf.specs.Lent.{word, WellWords}
use Rattle.dimacs.specs.Text.{space, literal_text, word_text, body, header_line, text_of}

-- ---- how long the text is

pub literal_size : (z : ℤ) → length (literal_text z) ≡ length (digits (nat_abs z)) + cond (is_negative z) 1 0
unfolding literal_text is_negative
literal_size (pos n) = omega arith
literal_size (negsuc n) = omega arith

pub word_length : (z : ℤ) → length (word_text z) ≡ length (literal_text z) + 1
unfolding word_text
word_length z = length-append (literal_text z) (cond (is_zero z) line_feed space ∷ [])

-- a word has at most seven digits, a minus, and the byte after it
word_nine : (z : ℤ) → nat_abs z ≤ 1000000 → length (word_text z) ≤ 9
word_nine z h = omega (arith, literal_size z, word_length z, at_most_one (is_negative z), length_most 6 (nat_abs z) (omega arith) (omega arith))

pub body_nine : {v : ℕ} {ws : List ℤ} → WellWords v ws → length (body ws) ≤ 9 * length ws
unfolding body
body_nine {v} {ws} w =
    omega (arith, list_length (λ k. word_text (word ws k)) (length ws), sum_most (λ k. length (word_text (word ws k))) 9 (length ws) (λ k h. word_nine (word ws k) (omega (arith, w.in_range k h, w.limits.counts.variables))))

pub header_length : (v clauses : ℕ) → length (header_line v clauses) ≡ 8 + length (digits v) + length (digits clauses)
unfolding header_line
header_length v clauses = simp length-append (omega arith)

pub text_size : (v : ℕ) (ws : List ℤ) → length (text_of v ws) ≡ 8 + length (digits v) + length (digits (zeros ws)) + length (body ws)
unfolding text_of
text_size v ws = omega (arith, length-append (header_line v (zeros ws)) (body ws), header_length v (zeros ws))

-- nine bytes for each word, and the header's
pub text_most : {v : ℕ} {ws : List ℤ} → WellWords v ws → length (text_of v ws) ≤ 22 + 9 * length ws
text_most {v} {ws} w =
    let c = w.limits.counts in
    omega (arith, body_nine w, text_size v ws, length_most 6 v (omega (arith, c.variables)) (omega (arith, c.variables)), length_most 6 (zeros ws) (omega (arith, c.clause_count)) (omega (arith, c.clause_count)))

-- ---- a last byte

-- ws is written from `at` on once the byte b is stored at r: there is room for it, and l' is as long as l
pub record LastByte (l : List ℕ) (at : ℕ) (ws l' : List ℕ) (r b : ℕ) : Type 0 where
  pub inside : r < length l'
  pub same : length l' ≡ length l
  pub wrote : Wrote l at ws (set l' r b) (r + 1)

pub last_byte : {l xs l' : List ℕ} {at r : ℕ} (b : ℕ) → Wrote l at xs l' r → r < length l → LastByte l at (xs ++ (b ∷ [])) l' r b
last_byte {l'} {r} b w h = record { inside = omega (arith, kept w); same = kept w; wrote = then w (put l' r b) }
