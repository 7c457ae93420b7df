-- The clause text of a word list, as the writer writes it. Assumes nothing.
use Rattle.std.specs.Prelude.{◌≡◌, ◌⊎◌, true, cond, ℕ, suc, ℤ, pos, negsuc, length}
use mathlib.Core.List.{List, [], ◌∷◌, ◌++◌, Memᴰ}
use Rattle.lists.specs.Upto.{up_to}
use Rattle.lists.specs.Signed.{is_zero}
use Rattle.decimal.specs.Bytes.{line_feed}
use Rattle.decimal.specs.Digits.{is_digit, digits}
use Rattle.cnf.specs.Clause.{Clause}
use Rattle.cnf.specs.Words.{zeros}
use Rattle.cnf.specs.Lent.{word}

-- the six bytes "p cnf "
abbrev pub head : List ℕ
head = 112 ∷ 32 ∷ 99 ∷ 110 ∷ 102 ∷ 32 ∷ []

-- a space, and a minus
abbrev pub space : ℕ
space = 32

abbrev pub minus : ℕ
minus = 45

-- a word's decimal, after a minus where it is negative
unfoldable pub literal_text : ℤ → List ℕ
literal_text (pos n) = digits n
literal_text (negsuc n) = minus ∷ digits (suc n)

-- and the byte that follows: a line feed after the 0 that closes a clause, else a space
unfoldable pub word_text : ℤ → List ℕ
word_text z = literal_text z ++ (cond (is_zero z) line_feed space ∷ [])

-- all words: so that each clause is a line
unfoldable pub body : List ℤ → List ℕ
body ws = up_to (length ws) (λ k. word_text (word ws k))

-- the header's line
unfoldable pub header_line : ℕ → ℕ → List ℕ
header_line v clauses = head ++ (digits v ++ (space ∷ (digits clauses ++ (line_feed ∷ []))))

unfoldable pub text_of : ℕ → List ℤ → List ℕ
text_of v ws = header_line v (zeros ws) ++ body ws

-- ---- the same, said of clauses; and its bytes

-- the line of a clause: each literal and a space, then `0` and a line feed
unfoldable pub line_of : Clause → List ℕ
line_of [] = 48 ∷ line_feed ∷ []
line_of (l ∷ c) = literal_text l ++ (space ∷ line_of c)

unfoldable pub lines_of : List Clause → List ℕ
lines_of [] = []
lines_of (c ∷ cs) = line_of c ++ lines_of cs

-- a digit, a space, a minus, a line feed, or one of the header's letters `p`, `c`, `n`, `f`
abbrev pub TextByte : ℕ → Type 0
TextByte b = (is_digit b ≡ true) ⊎ Memᴰ b (space ∷ minus ∷ line_feed ∷ 112 ∷ 99 ∷ 110 ∷ 102 ∷ [])
