-- The one reading of a decimal at a place of a text. Assumes nothing.
use Rattle.std.specs.Prelude.{Bool, false, cond, not, ◌&&◌, Option, Some, None, Result, Ok, Err, List, [], ◌∷◌, ℕ, ◌+◌, min, leb, ltb, eqb, length, get_or, drop}
use Rattle.decimal.specs.Digits.{is_digit, is_decimal, value}
use Rattle.decimal.specs.Bytes.{has_at}
use Rattle.decimal.specs.declared.Reading.{Reading}

-- the longest front of a text that is digits
unfoldable pub run : List ℕ → List ℕ
run [] = []
run (b ∷ bs) = cond (is_digit b) (b ∷ run bs) []

-- a number, or ten thousand million where it is more
abbrev pub cut : ℕ → ℕ
cut n = min 10000000000 n

-- the digits that stand in the text from `at` on: the number that they say, cut, and the place past the last. Where no digit
-- stands there, as past the text's end, they say 0, and end where they begin
abbrev pub digits_at : List ℕ → ℕ → Reading
digits_at text at = record { value = cut (value (run (drop at text))); end = at + length (run (drop at text)) }

-- they are a decimal
abbrev pub decimal_at : List ℕ → ℕ → Bool
decimal_at text at = is_decimal (run (drop at text))

-- what is read there: the digits, if they are a decimal
abbrev pub reading_at : List ℕ → ℕ → Option Reading
reading_at text at = cond (decimal_at text at) (Some (digits_at text at)) None

-- the same with the digits that are none: a decimal, or else what stands there
abbrev pub read_at : List ℕ → ℕ → Result Reading Reading
read_at text at = cond (decimal_at text at) (Ok (digits_at text at)) (Err (digits_at text at))

-- a decimal was read, and the byte b follows it
abbrev pub field_at : List ℕ → Option Reading → ℕ → Bool
field_at text None b = false
field_at text (Some read) b = has_at text read.end (b ∷ [])

-- what was read, where the byte b follows it
abbrev pub field_of : List ℕ → Option Reading → ℕ → Option Reading
field_of text read b = cond (field_at text read b) read None

-- they are a decimal of a number other than 0
abbrev pub is_positive_at : List ℕ → ℕ → Bool
is_positive_at text at = decimal_at text at && not (eqb (digits_at text at).value 0)

-- what is read where they are that
abbrev pub positive_at : List ℕ → ℕ → Option Reading
positive_at text at = cond (is_positive_at text at) (Some (digits_at text at)) None

-- a digit other than 0 stands at `at`
abbrev pub leads_at : List ℕ → ℕ → Bool
leads_at text at = ltb at (length text) && (leb 49 (get_or text at 0) && leb (get_or text at 0) 57)
