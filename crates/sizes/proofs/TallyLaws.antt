-- The numbers by the formulas are the list's own, since a sound diagram's are below the cut. Assumes nothing.
use mathlib.Core.Path.{◌≡◌}
use native.Mathlib.Omega.{arith}
use Rattle.cnf.specs.Encoded.{tally_same, tally_of}
use Rattle.diagram.specs.Lent.{Lent}
use Rattle.diagram.specs.Sound.{Shaped}
use Rattle.diagram.specs.Promise.{counts_of}
use Rattle.clauses.specs.Clauses.{edition1, clauses, last_variable}
use Rattle.clauses.proofs.Edition1Sizes.{last_variable_is, clauses_by_pairs, words_by_pairs, all_pairs_most, clauses_most, variables_most}
use Rattle.sizes.specs.Tallied.{tallied}

pub own_tally : (d : Lent) → Shaped d → tallied (counts_of d) d.domains ≡ tally_of (clauses edition1 d) (last_variable edition1 d)
own_tally d s =
    tally_same _ _ _ _ _ _
    (omega (arith, words_by_pairs d, all_pairs_most d s))
    (omega (arith, clauses_by_pairs d, all_pairs_most d s, clauses_most d s))
    (omega (arith, last_variable_is d, variables_most d s))
