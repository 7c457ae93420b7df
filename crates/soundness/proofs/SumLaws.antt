-- D as the sum of the domains, and how much a sound diagram has of each. Assumes nothing.
use Rattle.std.specs.Prelude.{◌≡◌, ◌<◌, ◌≤◌, ◌^◌, length}
use Rattle.std.specs.List.{sum}
use Rattle.std.proofs.Common.{arith}
use native.Mathlib.Nat.{le_refl}
use Rattle.lists.proofs.IterLaws.{sum_by_to}
use Rattle.diagram.specs.Lent.{Lent, options, nodes}
use Rattle.diagram.specs.Numbers.{first_value, values}
use Rattle.diagram.specs.Sound.{Sound}
use Rattle.diagram.proofs.NumberLaws.{values_most}
use Rattle.diagram.proofs.ShapedLaws.{edges_most}

pub value_sum : (d : Lent) → sum d.domains ≡ values d
unfolding first_value
value_sum d = sum_by_to (λ x. x) d.domains 0

module _ (d : Lent) (s : Sound d) where
  pub few_values : sum d.domains < 2 ^ 32
  few_values = omega (arith, value_sum d, values_most d s.shaped (options d) (le_refl _))

  pub few_targets : length d.targets ≤ 131072
  few_targets = omega (arith, s.counted, edges_most d s.shaped (nodes d) (le_refl _))
