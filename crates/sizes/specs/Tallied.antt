-- How long a diagram's list of clauses is, for every input: by the formulas, from the diagram's counts and its options'
-- pairs, each number of 32 bits cut. That a sound diagram's numbers are not cut is proved (`own_tally`). Assumes nothing.
use Rattle.std.specs.Prelude.{List, ℕ, ◌+◌, ◌*◌, min, length, get_or}
use Rattle.lists.specs.Upto.{sum_to}
use Rattle.cnf.specs.Encoded.{tally}
use Rattle.cnf.specs.declared.Tally.{Tally}
use Rattle.diagram.specs.Numbers.{last_number}
use Rattle.diagram.specs.declared.Diagram.{Diagram}
use Rattle.clauses.specs.Clauses.{pair_count}

-- a number, or the largest of 32 bits where it is more
abbrev pub cut : ℕ → ℕ
cut n = min 4294967295 n

-- how many pairs the first n options have together
abbrev pub pair_sum : List ℕ → ℕ → ℕ
pair_sum domains n = sum_to n (λ i. pair_count (get_or domains i 0))

-- words, clauses and V, where there are so many pairs
abbrev pub tallied_by : Diagram → ℕ → Tally
tallied_by c pairs =
    tally (6 + 2 * c.nodes + 14 * c.edges + c.values + c.options + 3 * pairs) (cut (3 + c.nodes + 4 * c.edges + c.options + pairs)) (cut (last_number c.values c.nodes c.edges))

abbrev pub tallied : Diagram → List ℕ → Tally
tallied c domains = tallied_by c (cut (pair_sum domains (length domains)))
