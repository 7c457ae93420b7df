-- `model_values::first_unread` meets its contract: before turn i the options below i have each one true value and a mark for
-- each value, their values stand in the build, and `before` counts the values of these options. Assumes nothing.
use Rattle.std.specs.Prelude.{None}
use mathlib.Core.Path.{◌≡◌}
use mathlib.Core.List.{[]}
use Prim.Native.Nat.{◌≤◌}
use lib.ListN.{length}
use Rattle.lists.specs.Buffer.{Wrote}
use Rattle.lists.specs.First.{first}
use Rattle.diagram.specs.Lent.{lent}
use Rattle.diagram.specs.Numbers.{first_value}
use Rattle.naming.specs.Marks.{marked_true}
use Rattle.model.specs.Rules.{values_to}
use Rattle.model.specs.Steps.{unread}
use Rattle.model_values.proofs.first_unread.Given as goal

abbrev pub invariant-loop-i : goal.invariant-loop-i
invariant-loop-i l = let d = lent l.domains [] [] in
    (l.before ≡ first_value d l.i) × (l.before ≤ length l.marks) × (first (unread d l.marks) l.i ≡ None) × Wrote l.initial.build 0 (values_to d (marked_true l.marks) l.i) l.build l.i
