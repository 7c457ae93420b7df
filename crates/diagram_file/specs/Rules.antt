-- What is refused of a diagram file, numbers 20 and 21, line by line from the first: as rules that compute, and as a table.
-- A refusal's place is the line's number, counted from 1. `most` says how many options, nodes and edges there is room for.
-- Assumes nothing.
use Rattle.std.specs.Prelude.{◌≡◌, Bool, not, List, [], ◌∷◌, ◌++◌, ℕ, ◌+◌, ◌≤◌, leb, ltb, length}
use Rattle.lists.specs.First.{found_if, counted_from, first, FirstFailing}
use Rattle.refusal.specs.Rules.{Rule, rule}
use Rattle.refusal.specs.Table.{Row, row}
use Rattle.diagram_file.specs.Lines.{line_start, line, LineGives, formed, value_of}
use Rattle.diagram_file.specs.File.{options_key, domain_key, nodes_key, layer_key, edges_key, to_key, nodes_line, edges_line, end_line}
use Rattle.diagram_file.specs.declared.Sizes.{Sizes}

module _ (text : List ℕ) where
  -- ---- the rules

  -- line k does not give a value by the key
  abbrev pub misformed : List ℕ → ℕ → Bool
  misformed key k = not (formed text key k)

  -- the `count` lines from line k on give one each
  abbrev pub lines_rule : List ℕ → ℕ → ℕ → Rule
  lines_rule key k count = rule 20 (counted_from (k + 1) (first (λ j. misformed key (k + j)) count))

  -- line k says by the first key how many lines follow it, which have the second: its form, its limit, and their form
  unfoldable pub part_rules : List ℕ → List ℕ → ℕ → ℕ → List Rule
  part_rules key later k most =
      rule 20 (found_if (misformed key k) (k + 1))
      ∷ rule 21 (found_if (ltb most (value_of text key k)) (k + 1))
      ∷ lines_rule later (k + 1) (value_of text key k)
      ∷ []

  -- nothing stands past the lines before line k
  abbrev pub end_rules : ℕ → List Rule
  end_rules k = rule 20 (found_if (not (leb (length text) (line_start text k))) (k + 1)) ∷ []

  unfoldable pub file_rules : Sizes → List Rule
  file_rules most =
      part_rules options_key domain_key 0 most.options
      ++ (part_rules nodes_key layer_key (nodes_line text) most.nodes
      ++ (part_rules edges_key to_key (edges_line text) most.edges ++ end_rules (end_line text)))

  -- ---- the table: its rows are asked one after the other

  abbrev pub part_table : List ℕ → List ℕ → ℕ → ℕ → List Row
  part_table key later k most =
      row 20 (λ p. (p ≡ k + 1) × (LineGives text key k → ⊥))
      ∷ row 21 (λ p. (p ≡ k + 1) × (value_of text key k ≤ most → ⊥))
      ∷ row 20 (λ p. (j : ℕ) × (p ≡ k + 1 + 1 + j) × FirstFailing (value_of text key k) (λ i. LineGives text later (k + 1 + i)) j)
      ∷ []

  abbrev pub end_table : ℕ → List Row
  end_table k = row 20 (λ p. (p ≡ k + 1) × (line text k ≡ [] → ⊥)) ∷ []

  abbrev pub file_table : Sizes → List Row
  file_table most =
      part_table options_key domain_key 0 most.options
      ++ (part_table nodes_key layer_key (nodes_line text) most.nodes
      ++ (part_table edges_key to_key (edges_line text) most.edges ++ end_table (end_line text)))
