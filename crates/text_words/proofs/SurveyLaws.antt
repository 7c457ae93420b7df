-- What the pass over the words comes to: the zeros and the literals beyond V are counted, and the text is measured. Assumes
-- nothing.
use Rattle.std.specs.Prelude.{None}
use mathlib.Core.Path.{◌≡◌, sym, ap, ◌∙◌}
use mathlib.Core.Bool.{false, cond, not}
use mathlib.Core.List.{List}
use Prim.Native.Nat.{ℕ, ◌+◌, ◌*◌, ◌≤◌, ◌<◌, min}
use native.Mathlib.Omega.{arith}
use lib.Dec.{eqb}
use lib.IntN.{ℤ, nat_abs}
use lib.ListN.{length}
use borrow.Author.Tests.{eqb-true, not-false}
use Rattle.lists.specs.Upto.{sum_to}
use Rattle.lists.specs.Signed.{is_zero, is_negative, beyond}
use Rattle.lists.specs.First.{first}
use Rattle.lists.proofs.UptoLaws.{at_most_one, sum_none, sum_more, sum_most, sum_same, list_length}
use Rattle.lists.proofs.FirstLaws.{count_start, count_more, count_most, count_none}
use Rattle.decimal.specs.Digits.{digits}
use Rattle.decimal.proofs.WriterLaws.{length_most}
use Rattle.cnf.specs.Words.{zeros}
use Rattle.cnf.specs.Lent.{word, beyond_at, WellWords}
use Rattle.cnf.proofs.WordsLaws.{zeros_count}
use Rattle.dimacs.specs.Text.{word_text, body, text_of}
use Rattle.dimacs.proofs.WriterLaws.{literal_size, word_length, body_nine, text_size}
use Rattle.text_words.specs.Survey.{word_size, Surveyed}

-- ---- the first pass

size_most : (z : ℤ) → word_size z ≤ 9
unfolding word_size
size_most z = omega (arith, at_most_one (is_negative z))

module _ {v : ℕ} {ws : List ℤ} where
  pub survey_none : Surveyed v ws 0 0 0 0
  survey_none = record { closing = sym (count_start _); out_of_range = sym (count_start _); bytes = sym (sum_none _) }

  module _ {k clauses past size : ℕ} (s : Surveyed v ws k clauses past size) where
    -- the word at k is counted and measured by what is found of it
    pub survey_more : {zero past' width sign : ℕ} → zero ≡ cond (is_zero (word ws k)) 1 0 → past' ≡ cond (beyond v (word ws k)) 1 0 → width ≡ min 7 (length (digits (nat_abs (word ws k)))) → sign ≡ cond (is_negative (word ws k)) 1 0
        → Surveyed v ws (k + 1) (clauses + zero) (past + past') (size + (width + sign + 1))
    unfolding word_size
    survey_more e f g l = record {
      closing = count_more _ k s.closing e;
      out_of_range = count_more _ k s.out_of_range f;
      bytes = omega (arith, s.bytes, sum_more (λ j. word_size (word ws j)) k);
    }

    -- no sum grows large
    pub survey_most : (clauses ≤ k) × (past ≤ k) × (size ≤ 9 * k)
    survey_most = (
      omega (arith, s.closing, count_most (λ j. is_zero (word ws j)) k),
      omega (arith, s.out_of_range, count_most (beyond_at v ws) k),
      omega (arith, s.bytes, sum_most (λ j. word_size (word ws j)) 9 k (λ j _. size_most (word ws j))),
    )

  module _ {clauses past size : ℕ} (s : Surveyed v ws (length ws) clauses past size) where
    pub survey_zeros : clauses ≡ zeros ws
    survey_zeros = s.closing ∙ sym (zeros_count ws)

    -- as code tests it
    pub survey_range : not (eqb past 0) ≡ false → first (beyond_at v ws) (length ws) ≡ None
    survey_range e = count_none (beyond_at v ws) (length ws) (sym s.out_of_range ∙ eqb-true past 0 (not-false (eqb past 0) e))

-- ---- how long the text is

word_size_lem : (z : ℤ) → nat_abs z ≤ 1000000 → word_size z ≡ length (word_text z)
unfolding word_size
word_size_lem z h = omega (arith, literal_size z, word_length z, length_most 6 (nat_abs z) (omega arith) (omega arith))

short : (n : ℕ) → n < 10000000 → min 7 (length (digits n)) ≡ length (digits n)
short n h = omega (arith, length_most 6 n h (omega arith))

module _ {v : ℕ} {ws : List ℤ} (w : WellWords v ws) where
  -- the limits, as numbers
  well_counts : (v ≤ 1000000) × (zeros ws ≤ 4000000) × (length ws ≤ 100000000)
  well_counts = (w.limits.counts.variables, w.limits.counts.clause_count, w.limits.words)

  body_size : sum_to (length ws) (λ k. word_size (word ws k)) ≡ length (body ws)
  unfolding body
  body_size =
      sum_same (λ k. word_size (word ws k)) (λ k. length (word_text (word ws k))) (length ws) (λ k h. word_size_lem (word ws k) (omega (arith, w.in_range k h, well_counts)))
      ∙ sym (list_length (λ k. word_text (word ws k)) (length ws))

  pub survey_size : {clauses past size : ℕ} → Surveyed v ws (length ws) clauses past size → size ≡ length (body ws)
  survey_size s = s.bytes ∙ body_size

  pub body_most : length (body ws) ≤ 900000000
  body_most = omega (arith, well_counts, body_nine w)

-- its bytes, as they are counted
pub text_length : {v : ℕ} {ws : List ℤ} {clauses a b size : ℕ} → WellWords v ws → clauses ≡ zeros ws → a ≡ min 7 (length (digits v)) → b ≡ min 7 (length (digits clauses)) → size ≡ length (body ws) → 8 + a + b + size ≡ length (text_of v ws)
text_length {v} {ws} {clauses} w e p q s =
    let c = well_counts w in
    omega (arith, short v (omega (arith, c.0)), short clauses (omega (arith, c.1)), text_size v ws, ap (λ (k : ℕ). length (digits k)) e)
