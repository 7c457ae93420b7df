-- `layer_check::count_bad_layers` meets its contract: n is the count of the nodes before node v. Assumes nothing.
use mathlib.Core.Path.{◌≡◌}
use mathlib.Core.List.{[]}
use Prim.Native.Nat.{ℕ, ◌+◌, ◌-◌}
use Rattle.lists.specs.Upto.{count_to}
use Rattle.diagram.specs.Lent.{lent}
use Rattle.diagram.specs.Rules.{bad_layer}
use Rattle.layer_check.proofs.count_bad_layers.Given as goal

abbrev pub invariant-loop-v : goal.invariant-loop-v
invariant-loop-v l = l.n ≡ count_to (l.v - 1) (λ (k : ℕ). bad_layer (lent l.domains l.layers []) (1 + k))
