-- The variables of a diagram as it is lent. Options, nodes, edges and values count from 0. Assumes nothing.
use Rattle.std.specs.Prelude.{ℕ, suc, ◌+◌}
use Rattle.diagram.specs.Lent.{Lent, nodes, asked, first_edge, edges, target}
use Rattle.diagram.specs.Numbers.{value_number, reference_number, edge_number, last_number, first_value, values}

module _ (d : Lent) where
  -- option i has value j
  abbrev pub value_variable : ℕ → ℕ → ℕ
  value_variable i j = value_number (first_value d i) j

  -- reference r: F, T, and the nodes
  abbrev pub reference_variable : ℕ → ℕ
  reference_variable r = reference_number (values d) r

  -- node v, which is reference v + 2
  abbrev pub node_variable : ℕ → ℕ
  node_variable v = reference_variable (suc (suc v))

  -- the edge of value j of node v
  abbrev pub edge_variable : ℕ → ℕ → ℕ
  edge_variable v j = edge_number (values d) (nodes d) (first_edge d v + j)

  -- the reference that it leads to
  abbrev pub target_variable : ℕ → ℕ → ℕ
  target_variable v j = reference_variable (target d v j)

  -- the value j of the option that node v asks about
  abbrev pub asked_variable : ℕ → ℕ → ℕ
  asked_variable v j = value_variable (asked d v) j

  -- the last edge's number; helpers come after it
  abbrev pub last_edge_variable : ℕ
  last_edge_variable = last_number (values d) (nodes d) (edges d)
