-- `encoder::values_before` meets its contract: n values stand before the option that is next. Assumes nothing.
use Rattle.std.specs.Prelude.{◌≡◌, [], ◌+◌}
use Rattle.diagram.specs.Lent.{lent}
use Rattle.diagram.specs.Numbers.{first_value}
use Rattle.encoder.proofs.values_before.Given as goal

abbrev pub invariant-loop-k : goal.invariant-loop-k
invariant-loop-k l = l.n ≡ first_value (lent l.domains [] []) (l.i + l.k-index)
