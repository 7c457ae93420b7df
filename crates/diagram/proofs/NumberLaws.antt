-- Laws of the variables' numbers: how many values stand before an option's, and how far references go. Assumes nothing.
use mathlib.Core.Path.{◌≡◌, refl}
use mathlib.Core.List.{List}
use Prim.Native.Nat.{ℕ, ◌+◌, ◌≤◌, ◌<◌}
use native.Mathlib.Omega.{arith}
use Rattle.lists.proofs.UptoLaws.{Sums, sums, sum_most}
use Rattle.diagram.specs.Lent.{Lent, lent, options, nodes, domain, layer, width, target}
use Rattle.diagram.specs.Sound.{Shaped, Sound}
use Rattle.diagram.specs.Numbers.{first_value}
use Rattle.diagram.proofs.AllowsLaws.{sound_ranked, later_most}

module _ (d : Lent) where
  -- values before an option: none before the first, then each option's
  pub value_sums : Sums (domain d) (first_value d)
  unfolding first_value
  value_sums = sums (domain d)

  pub values_most : Shaped d → (i : ℕ) → i ≤ options d → first_value d i ≤ 2048
  unfolding first_value
  values_most s i h = omega (arith, sum_most (domain d) 32 i (λ k l. (s.domains_fit k (omega arith)).1), s.options_fit)

  -- an edge leads to a reference that there is
  pub target_most : Sound d → (v j : ℕ) → v < nodes d → j < width d v → target d v j ≤ nodes d + 1
  target_most s v j h k = omega (arith, later_most d (layer d v) (target d v j) ((sound_ranked d s).later v j h k))

-- the layers and the targets have no part in it
pub same_values : (ds ls ts ls' ts' : List ℕ) (i : ℕ) → first_value (lent ds ls ts) i ≡ first_value (lent ds ls' ts') i
unfolding first_value
same_values ds ls ts ls' ts' i = refl
