-- What is printed: bytes as numbers, with what they spell in the comments. Assumes nothing.
use Rattle.std.specs.Prelude.{Bool, false, List, [], ◌∷◌, ◌++◌, ℕ, ◌/◌, ◌%◌, ◌==◌, ◌&&◌, nat_le, nat_lt, cond, length, slice_range, ℤ, Option, Result, OnOk}
use Rattle.std.specs.List.{flat_map}
use Rattle.std.specs.Io.KnownBytes.{Appends}
use Rattle.std.specs.Fmt.{decimal, signed_decimal, digit_glyph}
use Rattle.cnf.specs.declared.Tally.{Tally}
use Rattle.dimacs.specs.declared.TextRead.{TextRead}
use Rattle.dimacs.specs.declared.TextRead.TheVariants.{Read, Refused}
use Rattle.refusal.specs.declared.Refusal.{Refusal}

-- where no writing fails, the known bytes of a writer grow by these
abbrev pub Says : {A E W : Type 0} → Result A E → (W → Option (List ℕ)) → W → W → List ℕ → Type 0
Says r contents old new bytes = OnOk r (Appends (contents old) (contents new) bytes)

-- " refused=" and " place="
abbrev pub refused_name : List ℕ
refused_name = 32 ∷ 114 ∷ 101 ∷ 102 ∷ 117 ∷ 115 ∷ 101 ∷ 100 ∷ 61 ∷ []

abbrev pub place_name : List ℕ
place_name = 32 ∷ 112 ∷ 108 ∷ 97 ∷ 99 ∷ 101 ∷ 61 ∷ []

-- a space, and a word
abbrev pub word_shown : ℤ → List ℕ
word_shown w = 32 ∷ signed_decimal w

abbrev pub words_shown : List ℤ → List ℕ
words_shown = flat_map word_shown

-- a byte that is printed as it is
abbrev pub is_plain : ℕ → Bool
is_plain b = nat_le 32 b && nat_lt b 127

-- "\x" and two hexadecimal digits
abbrev pub hexadecimal : ℕ → List ℕ
hexadecimal b = 92 ∷ 120 ∷ digit_glyph false (b / 16) ∷ digit_glyph false (b % 16) ∷ []

-- a byte as a person reads it: as it is, as "\n", "\r" or "\t", or by its digits
abbrev pub byte_shown : ℕ → List ℕ
byte_shown b =
    cond (is_plain b) (b ∷ [])
    (cond (b == 10) (92 ∷ 110 ∷ []) (cond (b == 13) (92 ∷ 114 ∷ []) (cond (b == 9) (92 ∷ 116 ∷ []) (hexadecimal b))))

-- bytes between double quotes
abbrev pub quoted : List ℕ → List ℕ
quoted bs = 34 ∷ (flat_map byte_shown bs ++ 34 ∷ [])

-- a refusal's number and its place, each behind its name
abbrev pub refusal_shown : Refusal → List ℕ
refusal_shown r = refused_name ++ decimal r.number ++ place_name ++ decimal r.place

-- the numbers of a text that is read: behind " words=", " clauses=" and " variables=", and then ":"
abbrev pub tally_shown : Tally → List ℕ
tally_shown t =
    (32 ∷ 119 ∷ 111 ∷ 114 ∷ 100 ∷ 115 ∷ 61 ∷ []) ++ decimal t.words
    ++ (32 ∷ 99 ∷ 108 ∷ 97 ∷ 117 ∷ 115 ∷ 101 ∷ 115 ∷ 61 ∷ []) ++ decimal t.clauses
    ++ (32 ∷ 118 ∷ 97 ∷ 114 ∷ 105 ∷ 97 ∷ 98 ∷ 108 ∷ 101 ∷ 115 ∷ 61 ∷ []) ++ decimal t.variables ++ (58 ∷ [])

-- a list's first words, " |", and the others
abbrev pub list_shown : List ℤ → ℕ → List ℕ
list_shown list words = words_shown (slice_range list 0 words) ++ (32 ∷ 124 ∷ []) ++ words_shown (slice_range list words (length list))

-- what a reading gave, and the list afterwards
abbrev pub outcome_shown : TextRead → List ℤ → List ℕ
outcome_shown (Read t) list = tally_shown t ++ list_shown list t.words
outcome_shown (Refused r) list = refusal_shown r ++ list_shown list 0

-- "read ", the text between quotes, " ->", and what came of it
abbrev pub reading_shown : List ℕ → TextRead → List ℤ → List ℕ
reading_shown text o list = (114 ∷ 101 ∷ 97 ∷ 100 ∷ 32 ∷ []) ++ quoted (slice_range text 0 (length text)) ++ (32 ∷ 45 ∷ 62 ∷ []) ++ outcome_shown o list

-- the end of a case's line: " DIFFERS" where something does, and a line feed
abbrev pub case_end : ℕ → List ℕ
case_end n = cond (n == 0) (10 ∷ []) (32 ∷ 68 ∷ 73 ∷ 70 ∷ 70 ∷ 69 ∷ 82 ∷ 83 ∷ 10 ∷ [])

-- "differ over everything: "
abbrev pub last_name : List ℕ
last_name = 100 ∷ 105 ∷ 102 ∷ 102 ∷ 101 ∷ 114 ∷ 32 ∷ 111 ∷ 118 ∷ 101 ∷ 114 ∷ 32 ∷ 101 ∷ 118 ∷ 101 ∷ 114 ∷ 121 ∷ 116 ∷ 104 ∷ 105 ∷ 110 ∷ 103 ∷ 58 ∷ 32 ∷ []

-- how many things differ, or "none", and a line feed
abbrev pub count_shown : ℕ → List ℕ
count_shown n = cond (n == 0) (110 ∷ 111 ∷ 110 ∷ 101 ∷ 10 ∷ []) (decimal n ++ 10 ∷ [])
