-- The comment lines and the header of a clause text. Assumes nothing.
use Rattle.std.specs.Prelude.{◌≡◌, Bool, true, false, cond, not, ◌&&◌, List, [], ◌∷◌, ◌++◌, ℕ, ◌+◌, eqb}
use Rattle.decimal.specs.Digits.{is_decimal}
use Rattle.decimal.specs.Bytes.{line_feed, has_at}
use Rattle.decimal.specs.Reading.{digits_at, reading_at, field_at}
use Rattle.decimal.specs.declared.Reading.{Reading}
use Rattle.dimacs.specs.Text.{head, space}

-- how many bytes the comment lines at a text's front have: lines that begin with `c`, each up to its line feed or to the
-- text's end (`inside` says whether the text begins inside such a line)
unfoldable pub comments : Bool → List ℕ → ℕ
comments inside [] = 0
comments true (b ∷ bs) = comments (not (eqb b line_feed)) bs + 1
comments false (b ∷ bs) = cond (eqb b 99) (comments true bs + 1) 0

-- a header's line at the front of a text: "p cnf ", the decimal ds of V, a space, the decimal es of the clause count, a line
-- feed; and then the rest
pub record HeaderLine (s ds es rest : List ℕ) : Type 0 where
  pub line : s ≡ head ++ (ds ++ (space ∷ (es ++ (line_feed ∷ rest))))
  pub variables : is_decimal ds ≡ true
  pub clauses : is_decimal es ≡ true

-- ---- the same as it is read

module _ (text : List ℕ) (at : ℕ) where
  -- V's digits, and the clause count's
  abbrev pub variables_at : Reading
  variables_at = digits_at text (at + 6)

  abbrev pub clauses_at : Reading
  clauses_at = digits_at text (variables_at.end + 1)

  -- the line at `at` has the header's form
  unfoldable pub is_header : Bool
  is_header = has_at text at head && (field_at text (reading_at text (at + 6)) space && field_at text (reading_at text (variables_at.end + 1)) line_feed)

  -- where the tokens begin
  abbrev pub after_header : ℕ
  after_header = clauses_at.end + 1
