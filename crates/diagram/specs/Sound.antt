-- What a sound diagram is, and the table of what is refused where it is not one. Assumes nothing.
use Rattle.std.specs.Prelude.{◌≡◌, List, [], ◌∷◌, ℕ, suc, ◌+◌, ◌-◌, ◌≤◌, ◌<◌, length, get_or}
use Rattle.lists.specs.First.{FirstFailing}
use Rattle.refusal.specs.Table.{Row, row}
use Rattle.diagram.specs.Lent.{Lent, options, nodes, domain, layer, width, first_edge, edges, target}

abbrev pub Within : ℕ → ℕ → ℕ → Type 0
Within low high x = (low ≤ x) × (x ≤ high)

-- layers never fall along the list
abbrev pub Rising : List ℕ → Type 0
Rising ls = (u v : ℕ) → u ≤ v → v < length ls → get_or ls u 0 ≤ get_or ls v 0

-- what each number from 1 to 6 asks for
module _ (d : Lent) where
  abbrev pub OptionsFit : Type 0
  OptionsFit = Within 1 64 (options d)

  abbrev pub DomainFits : ℕ → Type 0
  DomainFits i = Within 1 32 (domain d i)

  abbrev pub NodesFit : Type 0
  NodesFit = Within 1 4096 (nodes d)

  -- the root alone has layer 1; the later layers lie in 2 to n and never fall along the list
  pub record LayerFits (v : ℕ) : Type 0 where
    pub root : v ≡ 0 → layer d v ≡ 1
    pub later : 0 < v → Within 2 (options d) (layer d v)
    pub rising : 0 < v → layer d (v - 1) ≤ layer d v

  abbrev pub Counted : Type 0
  Counted = length d.targets ≡ edges d

  -- an edge from layer i below n goes to F or to a node of layer i + 1; one from layer n goes to F or T
  pub data Permitted (i : ℕ) : ℕ → Type 0 where
    to_false : Permitted i 0
    to_true : i ≡ options d → Permitted i 1
    to_node : {w : ℕ} → i < options d → w < nodes d → layer d w ≡ i + 1 → Permitted i (suc (suc w))

  -- target p is permitted to the node whose edge it is
  abbrev pub TargetFits : ℕ → Type 0
  TargetFits p = (v j : ℕ) → v < nodes d → j < width d v → p ≡ first_edge d v + j → Permitted (layer d v) (target d v j)

  -- the domains and the layers are as they should be
  pub record Shaped : Type 0 where
    pub options_fit : OptionsFit
    pub domains_fit : (i : ℕ) → i < options d → DomainFits i
    pub nodes_fit : NodesFit
    pub layers_fit : (v : ℕ) → v < nodes d → LayerFits v

  pub record Sound : Type 0 where
    pub shaped : Shaped
    pub counted : Counted
    pub permitted : (v j : ℕ) → v < nodes d → j < width d v → Permitted (layer d v) (target d v j)

  -- numbers 1 to 6, with their places
  abbrev pub check_table : List Row
  check_table =
      row 1 (λ p. (p ≡ 0) × (OptionsFit → ⊥))
      ∷ row 2 (FirstFailing (options d) DomainFits)
      ∷ row 3 (λ p. (p ≡ 0) × (NodesFit → ⊥))
      ∷ row 4 (FirstFailing (nodes d) LayerFits)
      ∷ row 5 (λ p. (p ≡ 0) × (Counted → ⊥))
      ∷ row 6 (FirstFailing (edges d) TargetFits)
      ∷ []
