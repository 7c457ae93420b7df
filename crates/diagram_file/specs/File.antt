-- The diagram file: its keys, which lines follow which, and the diagram that it gives. Assumes nothing.
use Rattle.std.specs.Prelude.{List, [], ◌∷◌, ℕ, ◌+◌}
use Rattle.lists.specs.Upto.{up_to}
use Rattle.diagram.specs.Lent.{Lent, lent}
use Rattle.diagram_file.specs.Lines.{value_of}

-- "options=", "domain=", "nodes=", "layer=", "edges=" and "to="
abbrev pub options_key : List ℕ
options_key = 111 ∷ 112 ∷ 116 ∷ 105 ∷ 111 ∷ 110 ∷ 115 ∷ 61 ∷ []

abbrev pub domain_key : List ℕ
domain_key = 100 ∷ 111 ∷ 109 ∷ 97 ∷ 105 ∷ 110 ∷ 61 ∷ []

abbrev pub nodes_key : List ℕ
nodes_key = 110 ∷ 111 ∷ 100 ∷ 101 ∷ 115 ∷ 61 ∷ []

abbrev pub layer_key : List ℕ
layer_key = 108 ∷ 97 ∷ 121 ∷ 101 ∷ 114 ∷ 61 ∷ []

abbrev pub edges_key : List ℕ
edges_key = 101 ∷ 100 ∷ 103 ∷ 101 ∷ 115 ∷ 61 ∷ []

abbrev pub to_key : List ℕ
to_key = 116 ∷ 111 ∷ 61 ∷ []

module _ (text : List ℕ) where
  -- line 0 gives the number of options, and that many lines follow it; then comes the line of the number of nodes, and so on
  abbrev pub option_count : ℕ
  option_count = value_of text options_key 0

  abbrev pub nodes_line : ℕ
  nodes_line = 1 + option_count

  abbrev pub node_count : ℕ
  node_count = value_of text nodes_key nodes_line

  abbrev pub edges_line : ℕ
  edges_line = nodes_line + 1 + node_count

  abbrev pub edge_count : ℕ
  edge_count = value_of text edges_key edges_line

  -- and this line is one too many
  abbrev pub end_line : ℕ
  end_line = edges_line + 1 + edge_count

  -- the values of the `count` lines that follow line k
  unfoldable pub values_after : List ℕ → ℕ → ℕ → List ℕ
  values_after key k count = up_to count (λ j. value_of text key (k + 1 + j) ∷ [])

  abbrev pub file_diagram : Lent
  file_diagram = lent (values_after domain_key 0 option_count) (values_after layer_key nodes_line node_count) (values_after to_key edges_line edge_count)
