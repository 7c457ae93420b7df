-- The tokens of a text, which of them are well formed, and the words that they say. Places count from 0. Assumes nothing.
use Rattle.std.specs.Prelude.{◌≡◌, Bool, true, false, cond, not, ◌&&◌, ◌||◌, List, [], ◌∷◌, ℕ, ◌+◌, ◌≤◌, eqb, ℤ, nat_abs, drop}
use Rattle.decimal.specs.Digits.{is_decimal, value}
use Rattle.cnf.specs.Clause.{says}
use Rattle.dimacs.specs.Text.{minus}

-- the four separators: space, tab, carriage return, line feed
unfoldable pub is_gap : ℕ → Bool
is_gap b = eqb b 32 || eqb b 9 || eqb b 13 || eqb b 10

-- the longest front of a text that has no separator
unfoldable pub lead : List ℕ → List ℕ
lead [] = []
lead (b ∷ bs) = cond (is_gap b) [] (b ∷ lead bs)

-- no token goes on where the text ends or a separator stands
unfoldable pub ended : List ℕ → Bool
ended [] = true
ended (b ∷ bs) = is_gap b

-- a token: the place of its first byte, and its bytes
pub record Token : Type 0 where
  pub start : ℕ
  pub bytes : List ℕ

-- the tokens of a text that begins at the place `at`: one begins at each byte that is no separator and stands first or after
-- a separator, and goes on up to the next separator or the text's end (`inside` says that a token is being passed)
unfoldable pub tokens : Bool → ℕ → List ℕ → List Token
tokens inside at [] = []
tokens inside at (b ∷ bs) = cond (is_gap b) (tokens false (at + 1) bs) (cond inside (tokens true (at + 1) bs) (record { start = at; bytes = lead (b ∷ bs) } ∷ tokens true (at + 1) bs))

-- ---- what a token says

-- its first byte is a minus
unfoldable pub has_minus : List ℕ → Bool
has_minus [] = false
has_minus (b ∷ bs) = eqb b minus

-- what follows the minus, if there is one
unfoldable pub unsigned : List ℕ → List ℕ
unsigned t = cond (has_minus t) (drop 1 t) t

-- a decimal, after a minus or not, and no minus before 0
unfoldable pub formed : List ℕ → Bool
formed t = is_decimal (unsigned t) && not (has_minus t && eqb (value (unsigned t)) 0)

-- its word
unfoldable pub word_of : List ℕ → ℤ
word_of t = says (not (has_minus t)) (value (unsigned t))

-- its bytes are well formed, and say no literal beyond v
pub record Good (v : ℕ) (t : List ℕ) : Type 0 where
  pub is_formed : formed t ≡ true
  pub in_range : nat_abs (word_of t) ≤ v

-- the words of tokens
unfoldable pub words_of : List Token → List ℤ
words_of [] = []
words_of (t ∷ ts) = word_of t.bytes ∷ words_of ts
