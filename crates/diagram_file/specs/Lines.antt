-- The lines of a text, and the form of a line that gives a value. Lines, and the bytes of a text, count from 0 here. Assumes
-- nothing.
use Rattle.std.specs.Prelude.{◌≡◌, Bool, true, cond, not, ◌&&◌, Option, Some, None, List, [], ◌∷◌, ◌++◌, ℕ, zero, suc, ◌+◌, ◌≤◌, leb, eqb, length, drop}
use Rattle.decimal.specs.Digits.{is_decimal, value}
use Rattle.decimal.specs.Bytes.{line_feed, has_at}
use Rattle.decimal.specs.Reading.{digits_at, reading_at, field_at}
use Rattle.decimal.specs.declared.Reading.{Reading}
use Rattle.diagram_file.specs.declared.Line.{Line}

-- the largest value, 2 ^ 32 - 1
abbrev pub most_value : ℕ
most_value = 4294967295

-- the first line of a text: up to its first line feed, that included, or the whole text where it has none
unfoldable pub first_line : List ℕ → List ℕ
first_line [] = []
first_line (b ∷ bs) = b ∷ cond (eqb b line_feed) [] (first_line bs)

-- no byte of a key is a line feed
unfoldable pub one_line : List ℕ → Bool
one_line [] = true
one_line (b ∷ bs) = not (eqb b line_feed) && one_line bs

-- a line that gives a value: the key, the decimal ds of a number up to 4294967295, a line feed
pub record GivesValue (line key ds : List ℕ) : Type 0 where
  pub is_line : line ≡ key ++ (ds ++ (line_feed ∷ []))
  pub decimal : is_decimal ds ≡ true
  pub fits : value ds ≤ most_value

module _ (text : List ℕ) where
  -- where line k begins: past the lines before it. A line that is missing begins at the text's end, and has no bytes
  unfoldable pub line_start : ℕ → ℕ
  line_start zero = 0
  line_start (suc k) = line_start k + length (first_line (drop (line_start k) text))

  abbrev pub line : ℕ → List ℕ
  line k = first_line (drop (line_start k) text)

  -- line k is the key, a value, and a line feed
  abbrev pub LineGives : List ℕ → ℕ → Type 0
  LineGives key k = (ds : List ℕ) × GivesValue (line k) key ds

  -- ---- the same as it is read

  -- the digits that stand after as many bytes as the key has
  abbrev pub read_after : List ℕ → ℕ → Reading
  read_after key at = digits_at text (at + length key)

  -- the key, a value and a line feed stand from an index of the text on
  unfoldable pub formed_at : List ℕ → ℕ → Bool
  formed_at key at = has_at text at key && (field_at text (reading_at text (at + length key)) line_feed && leb (read_after key at).value most_value)

  -- what it says: its value, and where the next line begins
  abbrev pub line_said : List ℕ → ℕ → Line
  line_said key at = record { value = (read_after key at).value; next = (read_after key at).end + 1 }

  -- the line that stands there, if it has that form
  unfoldable pub line_at : List ℕ → ℕ → Option Line
  line_at key at = cond (formed_at key at) (Some (line_said key at)) None

  abbrev pub formed : List ℕ → ℕ → Bool
  formed key k = formed_at key (line_start k)

  -- the value that line k gives
  unfoldable pub value_of : List ℕ → ℕ → ℕ
  value_of key k = (read_after key (line_start k)).value
