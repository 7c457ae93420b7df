-- What the program prints for the bytes that it was given: the clause text of the diagram, or two lines that tell a refusal.
-- Assumes nothing.
use Rattle.std.specs.Prelude.{◌≡◌, List, [], ◌∷◌, ◌++◌, ℕ, ◌≤◌, ltb, length, Ok, Err}
use Rattle.lists.specs.First.{found_if}
use Rattle.refusal.specs.Rules.{Verdict, Rule, rule}
use Rattle.refusal.specs.Table.{Row, row}
use Rattle.refusal.specs.declared.Refusal.{Refusal}
use Rattle.decimal.specs.Digits.{digits}
use Rattle.cnf.specs.Clause.{words}
use Rattle.diagram.specs.Lent.{Lent}
use Rattle.clauses.specs.Clauses.{Edition, edition1, clauses, last_variable}
use Rattle.dimacs.specs.Text.{text_of}
use Rattle.diagram_file.specs.File.{file_diagram}
use Rattle.diagram_file.specs.Rules.{file_rules, file_table}
use Rattle.diagram_file.specs.Promise.{sizes}
use Rattle.diagram_file.specs.declared.Sizes.{Sizes}
use Rattle.encoding.specs.Promise.{encode_rules, encode_table}

-- the program's limits: bytes that are read, options, nodes and edges, words
abbrev pub most_bytes : ℕ
most_bytes = 32768

abbrev pub most_sizes : Sizes
most_sizes = sizes 64 512 1024

abbrev pub most_words : ℕ
most_words = 8192

-- the edition that the program writes
abbrev pub edition : Edition
edition = edition1

-- ---- what is refused

-- of a diagram
abbrev pub list_rules : Lent → List Rule
list_rules d = encode_rules edition d most_words

-- of a file that is not too long
abbrev pub lines_rules : List ℕ → List Rule
lines_rules input = file_rules input most_sizes ++ list_rules (file_diagram input)

-- of any input: 21 where it has too many bytes, then what the file is refused for, line by line, and then what the diagram is
unfoldable pub desk_rules : List ℕ → List Rule
desk_rules input = rule 21 (found_if (ltb most_bytes (length input)) 0) ∷ lines_rules input

-- the same as a table, whose rows are asked one after the other
abbrev pub desk_table : List ℕ → List Row
desk_table input = row 21 (λ p. (p ≡ 0) × (length input ≤ most_bytes → ⊥)) ∷ (file_table input most_sizes ++ encode_table edition (file_diagram input) most_words)

-- ---- what is printed

-- a name with its `=`, a number, a line feed
abbrev pub named_line : List ℕ → ℕ → List ℕ
named_line name n = name ++ (digits n ++ (10 ∷ []))

-- "refused=" and "place="
abbrev pub refused_name : List ℕ
refused_name = 114 ∷ 101 ∷ 102 ∷ 117 ∷ 115 ∷ 101 ∷ 100 ∷ 61 ∷ []

abbrev pub place_name : List ℕ
place_name = 112 ∷ 108 ∷ 97 ∷ 99 ∷ 101 ∷ 61 ∷ []

unfoldable pub refusal_lines : Refusal → List ℕ
refusal_lines r = named_line refused_name r.number ++ named_line place_name r.place

-- the clause text of a diagram
abbrev pub diagram_text : Lent → List ℕ
diagram_text d = text_of (last_variable edition d) (words (clauses edition d))

-- the refusal's lines, or else the text
abbrev pub printing : Verdict → List ℕ → List ℕ
printing (Ok tt) text = text
printing (Err r) text = refusal_lines r
