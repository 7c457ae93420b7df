-- Where a layer ends, and how many edges its nodes have, as they are computed for every list; and where a layer ends in a list
-- in which layers never fall. Assumes nothing.
use Rattle.std.specs.Prelude.{Bool, not, cond, ◌&&◌, List, ℕ, ◌+◌, ◌-◌, ◌*◌, ◌≤◌, ◌<◌, length, get_or, ltb, leb, Option, Some, None}
use Rattle.lists.specs.First.{first}

-- ---- as it is computed

-- the place that was found, or n where there is none
abbrev pub place_or : ℕ → Option ℕ → ℕ
place_or n (Some k) = k
place_or n None = n

module _ (ls : List ℕ) (from i : ℕ) where
  -- of the nodes from `from` on, eight at a time: the k-th eight are all there, and the last of them has a layer of at most i
  abbrev pub low_eight : ℕ → Bool
  low_eight k = leb (from + 8 * k + 8) (length ls) && leb (get_or ls (from + 8 * k + 7) 0) i

  -- past the eights that are so
  unfoldable pub past_eights : ℕ
  past_eights = from + 8 * place_or 0 (first (λ k. not (low_eight k)) (length ls + 1))

  -- the first node from there on whose layer is above i, or the list's end; past that `from` itself
  unfoldable pub layer_end : ℕ
  layer_end = cond (leb from (length ls)) (past_eights + place_or (length ls - past_eights) (first (λ j. ltb i (get_or ls (past_eights + j) 0)) (length ls - past_eights))) from

-- how many edges `count` nodes of layer i have: 0 where they are more than a diagram may have, and where no option is asked
unfoldable pub layer_edges : List ℕ → ℕ → ℕ → ℕ
layer_edges ds i count = cond (leb count 4096 && leb 1 i) (count * get_or ds (i - 1) 0) 0

-- ---- where layers never fall

-- every node from `from` to before `end` has a layer of at most i
pub record NoneAbove (ls : List ℕ) (from i end : ℕ) : Type 0 where
  pub from_on : from ≤ end
  pub to_last : end ≤ length ls
  pub until : (v : ℕ) → from ≤ v → v < end → get_or ls v 0 ≤ i

-- end is the first node from `from` on whose layer is above i
pub record LayerEnd (ls : List ℕ) (from i end : ℕ) : Type 0 where
  pub none_above : NoneAbove ls from i end
  pub above : end < length ls → i < get_or ls end 0
