-- What a build must be before it is judged: numbers 8 and 9, after 1 to 6. Assumes nothing.
use Rattle.std.specs.Prelude.{◌≡◌, Bool, not, List, [], ◌∷◌, ◌++◌, ℕ, ◌<◌, length, leb, eqb}
use Rattle.lists.specs.First.{found_if, first, FirstFailing}
use Rattle.refusal.specs.Rules.{Rule, rule}
use Rattle.refusal.specs.Table.{Row, row}
use Rattle.diagram.specs.Lent.{Lent, options, domain, chosen, Build}
use Rattle.diagram.specs.Sound.{check_table}
use Rattle.diagram.specs.Rules.{check_rules}

module _ (d : Lent) (build : List ℕ) where
  abbrev pub ValueFits : ℕ → Type 0
  ValueFits i = chosen build i < domain d i

  -- numbers 8 and 9, with their places
  abbrev pub build_table : List Row
  build_table =
      row 8 (λ p. (p ≡ 0) × (length build ≡ options d → ⊥))
      ∷ row 9 (FirstFailing (options d) ValueFits)
      ∷ []

  abbrev pub judge_table : List Row
  judge_table = check_table d ++ build_table

  -- the same as tests that compute
  abbrev pub bad_value : ℕ → Bool
  bad_value i = leb (domain d i) (chosen build i)

  unfoldable pub build_rules : List Rule
  build_rules =
      rule 8 (found_if (not (eqb (length build) (options d))) 0)
      ∷ rule 9 (first bad_value (options d))
      ∷ []

  unfoldable pub judge_rules : List Rule
  judge_rules = check_rules d ++ build_rules

  -- a build that is not refused: as long as there are options, with each value in its domain
  pub record Fits : Type 0 where
    pub whole : length build ≡ options d
    pub in_domain : Build d (chosen build)
