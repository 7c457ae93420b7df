-- What is to be shown of an encoding of a diagram beyond the common part, for an allowed build and what its references and
-- edges are to be: that this satisfies the clauses, and that propagation from the build's values decides it. Assumes nothing.
use mathlib.Core.Path.{◌≡◌}
use mathlib.Core.Bool.{Bool}
use mathlib.Core.List.{List}
use Prim.Native.Nat.{ℕ, ◌+◌, ◌<◌}
use lib.IntN.{ℤ}
use lib.Dec.{eqb}
use Rattle.cnf.specs.Clause.{Clause, says, Setting, Satisfies, Reached}
use Rattle.diagram.specs.Lent.{Lent, options, nodes, domain, width}
use Rattle.clauses.specs.Variables.{value_variable, reference_variable, edge_variable}
use Rattle.clauses.specs.Clauses.{Edition, option_clauses}
use Rattle.clauses.proofs.Common.{Chooses}

-- the setting says of each value whether the build has it, and of each reference and edge what they are to be
pub record Stands (d : Lent) (x : ℕ → ℕ) (reference : ℕ → Bool) (edge : ℕ → ℕ → Bool) (σ : Setting) : Type 0 where
  pub value_is : (i j : ℕ) → i < options d → j < domain d i → σ (value_variable d i j) ≡ eqb j (x i)
  pub reference_is : (r : ℕ) → r < nodes d + 2 → σ (reference_variable d r) ≡ reference r
  pub edge_is : (v j : ℕ) → v < nodes d → j < width d v → σ (edge_variable d v j) ≡ edge v j

pub record Meant (e : Edition) (d : Lent) (cs : List Clause) (x : ℕ → ℕ) (reference : ℕ → Bool) (edge : ℕ → ℕ → Bool) : Type 1 where
  pub satisfied : (σ : Setting) → Stands d x reference edge σ → ((i : ℕ) → i < options d → Satisfies σ (option_clauses e d i)) → Satisfies σ cs
  pub reference_decided : (Given : ℤ → Type 0) → Chooses d x Given cs → (r : ℕ) → r < nodes d + 2 → Reached Given cs (says (reference r) (reference_variable d r))
  pub edge_decided : (Given : ℤ → Type 0) → Chooses d x Given cs → (v j : ℕ) → v < nodes d → j < width d v → Reached Given cs (says (edge v j) (edge_variable d v j))
