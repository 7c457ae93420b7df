-- The rules 1 to 5 of a lent diagram: those of its shape, and that of the count of its targets. Assumes nothing.
use Rattle.std.specs.Prelude.{not, List, [], ◌∷◌, ◌++◌, length, eqb}
use Rattle.lists.specs.First.{found_if}
use Rattle.refusal.specs.Rules.{Rule, rule}
use Rattle.diagram.specs.Lent.{Lent, edges}
use Rattle.diagram.specs.Rules.{shape_rules}

abbrev pub count_rule : Lent → List Rule
count_rule d = rule 5 (found_if (not (eqb (length d.targets) (edges d))) 0) ∷ []

unfoldable pub count_rules : Lent → List Rule
count_rules d = shape_rules d ++ count_rule d
