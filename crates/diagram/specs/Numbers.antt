-- The variables' numbers, from a diagram's counts: D values, s nodes, E edges. Each is the successor of a sum, so that no
-- variable has the number 0. Assumes nothing.
use Rattle.std.specs.Prelude.{ℕ, suc, ◌+◌}
use Rattle.lists.specs.Upto.{sum_to}
use Rattle.diagram.specs.Lent.{Lent, options, domain}

-- option i has value j, where the options before it have `before` values together: 1 + before + j
abbrev pub value_number : ℕ → ℕ → ℕ
value_number before j = suc (before + j)

-- reference r: D + 1 + r
abbrev pub reference_number : ℕ → ℕ → ℕ
reference_number D r = suc (D + r)

-- edge e, counted from 0: D + s + 3 + e
abbrev pub edge_number : ℕ → ℕ → ℕ → ℕ
edge_number D s e = suc (D + s + 2 + e)

-- the last edge's number: V, where no helper variables follow
abbrev pub last_number : ℕ → ℕ → ℕ → ℕ
last_number D s E = D + s + 2 + E

module _ (d : Lent) where
  -- how many values the options before the one at index i have together
  unfoldable pub first_value : ℕ → ℕ
  first_value i = sum_to i (domain d)

  -- D
  abbrev pub values : ℕ
  values = first_value (options d)
