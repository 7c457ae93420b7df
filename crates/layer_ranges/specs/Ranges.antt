-- The range of references that edges of a layer may lead to: as it is computed for every list, and what it is of a diagram.
-- Assumes nothing.
use Rattle.std.specs.Prelude.{◌≡◌, not, cond, List, ℕ, ◌+◌, min, length, eqb}
use Rattle.stray.specs.Stray.{stray}
use Rattle.stray.specs.declared.Range.{Range}
use Rattle.diagram.specs.Lent.{Lent}
use Rattle.diagram.specs.Rules.{permits}
use Rattle.layer_ends.specs.Layers.{layer_end}

-- a number, or the largest of 32 bits where it is more
abbrev pub cut : ℕ → ℕ
cut n = min 4294967295 n

-- F and, from the last layer, T; and the nodes of the next layer, which begin at `next`
unfoldable pub range_by : List ℕ → List ℕ → ℕ → ℕ → Range
range_by ds ls i next = record { ends = cond (eqb i (length ds)) 2 1; low = cut (next + 2); high = cut (layer_end ls next (cut (i + 1)) + 2) }

-- the range is where edges of layer i may lead
abbrev pub RangeOf : Lent → ℕ → Range → Type 0
RangeOf d i r = (t : ℕ) → stray r t ≡ not (permits d i t)
