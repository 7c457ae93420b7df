-- `layer_check::search_bad_layer` meets its contract: none below v is bad. Assumes nothing.
use Rattle.std.specs.Prelude.{None}
use mathlib.Core.Path.{◌≡◌}
use mathlib.Core.List.{[]}
use Rattle.lists.specs.First.{first}
use Rattle.diagram.specs.Lent.{lent}
use Rattle.diagram.specs.Rules.{bad_layer}
use Rattle.layer_check.proofs.search_bad_layer.Given as goal

abbrev pub invariant-loop-v : goal.invariant-loop-v
invariant-loop-v l = first (bad_layer (lent l.domains l.layers [])) l.v ≡ None
