-- Ranges of a list: how long the part from one index to before another is, and the node in whose range of edges an edge is.
-- Assumes nothing.
use mathlib.Core.Path.{◌≡◌}
use mathlib.Core.List.{List}
use Prim.Native.Nat.{ℕ, ◌+◌, ◌-◌, ◌≤◌, ◌<◌}
use native.Mathlib.Omega.{arith}
use lib.ListN.{length, take, drop, length-drop}
use lib.Seq.{length-take-le}
use Rattle.lists.proofs.UptoLaws.{last_term}
use Rattle.diagram.specs.Lent.{Lent, nodes, first_edge}
use Rattle.diagram.specs.Rules.{owner}
use Rattle.diagram.proofs.ShapedLaws.{edge_sums}

-- the part of a list from a to before e
pub part_length : (l : List ℕ) (a e : ℕ) → e ≤ length l → length (take (e - a) (drop a l)) ≡ e - a
part_length l a e h = length-take-le (e - a) (drop a l) (omega (arith, length-drop a l))

-- the node whose edge it is
pub owner_is : (d : Lent) (v e : ℕ) → v < nodes d → first_edge d v ≤ e → e < first_edge d (v + 1) → owner d e ≡ v
unfolding owner
owner_is d v e h low high = last_term (edge_sums d) (nodes d) v e h low (omega (arith, (edge_sums d).more v))
