-- What is refused of a clause text, numbers 17, 16, 18, 14, 15, 19 and 7: as rules that compute, and as a table. Assumes
-- nothing.
use Rattle.std.specs.Prelude.{◌≡◌, true, false, not, List, [], ◌∷◌, ◌++◌, ℕ, ◌≤◌, eqb, ℤ, nat_abs, length, drop}
use Rattle.lists.specs.First.{found_if}
use Rattle.lists.specs.Signed.{beyond}
use Rattle.refusal.specs.Rules.{Rule, rule, room_rule}
use Rattle.refusal.specs.Table.{Row, row, room_row}
use Rattle.cnf.specs.Words.{zeros, closed}
use Rattle.cnf.specs.Lent.{CountsFit, too_many}
use Rattle.dimacs.specs.Tokens.{Token, tokens, formed, word_of, words_of}
use Rattle.dimacs.specs.Header.{comments, HeaderLine, variables_at, clauses_at, is_header, after_header}

-- tokens are judged from the left, 18 before 14 for one token, for variables up to v
unfoldable pub token_rules : ℕ → List Token → List Rule
token_rules v [] = []
token_rules v (t ∷ ts) = rule 18 (found_if (not (formed t.bytes)) t.start) ∷ rule 14 (found_if (beyond v (word_of t.bytes)) t.start) ∷ token_rules v ts

-- the last word, if there is one, is 0; the zeros are as many as the header says; and the words fit into a lent list of
-- `room`. The text has `size` bytes
unfoldable pub end_rules : ℕ → ℕ → List ℤ → ℕ → List Rule
end_rules size clauses ws room =
    rule 15 (found_if (not (closed ws)) size)
    ∷ rule 19 (found_if (not (eqb (zeros ws) clauses)) (zeros ws))
    ∷ room_rule (length ws) room
    ∷ []

-- the same as a table: a token's place is its start
abbrev pub token_table : ℕ → List Token → List Row
token_table v [] = []
token_table v (t ∷ ts) =
    row 18 (λ p. (p ≡ t.start) × (formed t.bytes ≡ true → ⊥))
    ∷ row 14 (λ p. (p ≡ t.start) × (nat_abs (word_of t.bytes) ≤ v → ⊥))
    ∷ token_table v ts

module _ (text : List ℕ) where
  -- where the header's line begins, and what it says (cut at 10,000,000,000, above both limits)
  abbrev pub header_start : ℕ
  header_start = comments false text

  abbrev pub header_variables : ℕ
  header_variables = (variables_at text header_start).value

  abbrev pub header_clauses : ℕ
  header_clauses = (clauses_at text header_start).value

  -- the tokens after it, and their words
  abbrev pub tokens_from : ℕ → List Token
  tokens_from at = tokens false at (drop at text)

  abbrev pub text_tokens : List Token
  text_tokens = tokens_from (after_header text header_start)

  abbrev pub text_words : List ℤ
  text_words = words_of text_tokens

  -- ---- the rules

  unfoldable pub header_rules : List Rule
  header_rules =
      rule 17 (found_if (not (is_header text header_start)) header_start)
      ∷ rule 16 (found_if (too_many header_variables header_clauses) header_start)
      ∷ []

  unfoldable pub read_rules : ℕ → List Rule
  read_rules room = header_rules ++ (token_rules header_variables text_tokens ++ end_rules (length text) header_clauses text_words room)

  -- ---- the table

  -- looked for in this order: 16 is asked only of a line that has the form, and the later ones only after such a header
  abbrev pub read_table : ℕ → List Row
  read_table room =
      row 17 (λ p. (p ≡ header_start) × ((ds es rest : List ℕ) → HeaderLine (drop header_start text) ds es rest → ⊥))
      ∷ row 16 (λ p. (p ≡ header_start) × (CountsFit header_variables header_clauses → ⊥))
      ∷ (token_table header_variables text_tokens
      ++ (row 15 (λ p. (p ≡ length text) × (closed text_words ≡ true → ⊥))
      ∷ row 19 (λ p. (p ≡ zeros text_words) × (zeros text_words ≡ header_clauses → ⊥))
      ∷ room_row (length text_words) room
      ∷ []))
