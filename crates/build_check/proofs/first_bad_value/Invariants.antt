-- `build_check::first_bad_value` meets its contract: none below i is bad. Assumes nothing.
use Rattle.std.specs.Prelude.{◌≡◌, [], None}
use Rattle.lists.specs.First.{first}
use Rattle.diagram.specs.Lent.{lent}
use Rattle.judge.specs.Build.{bad_value}
use Rattle.build_check.proofs.first_bad_value.Given as goal

abbrev pub invariant-loop-i : goal.invariant-loop-i
invariant-loop-i l = first (bad_value (lent l.domains [] []) l.build) l.i ≡ None
