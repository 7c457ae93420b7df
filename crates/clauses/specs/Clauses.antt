-- The clauses of a diagram, in order, over the variables' numbers. Options, nodes, edges and values count from 0, and node
-- v has the reference v + 2. Assumes nothing.
use Rattle.std.specs.Prelude.{List, [], ◌∷◌, ◌++◌, ℕ, suc, ◌+◌, ◌-◌, ◌*◌, ◌/◌}
use Rattle.lists.specs.Upto.{sum_to, up_to}
use Rattle.cnf.specs.Clause.{Clause, plain, negated}
use Rattle.diagram.specs.Lent.{Lent, options, nodes, domain, width}
use Rattle.diagram.specs.Numbers.{value_number, reference_number, first_value, values}
use Rattle.clauses.specs.Variables.{node_variable, edge_variable, target_variable, asked_variable, last_edge_variable}

-- the clause "at least one of k variables", where f gives their numbers
abbrev pub one_of : (ℕ → ℕ) → ℕ → Clause
one_of f k = up_to k (λ j. plain (f j) ∷ [])

-- ---- an option of k values, where the options before it have b values together: "exactly one of them"

-- the clause of all its values in order
abbrev pub all_values : ℕ → ℕ → Clause
all_values b k = one_of (λ j. value_number b j) k

-- not i, not j
abbrev pub pair : ℕ → ℕ → ℕ → Clause
pair b i j = negated (value_number b i) ∷ negated (value_number b j) ∷ []

-- value i with each of the n values after it
abbrev pub pairs_after : ℕ → ℕ → ℕ → List Clause
pairs_after b i n = up_to n (λ t. pair b i (i + 1 + t) ∷ [])

-- each value with those after it: the pairs i < j, i first and then j
abbrev pub pairs : ℕ → ℕ → List Clause
pairs b k = up_to k (λ i. pairs_after b i (k - 1 - i))

-- how many they are
abbrev pub pair_count : ℕ → ℕ
pair_count k = k * (k - 1) / 2

abbrev pub pairwise : ℕ → ℕ → List Clause
pairwise b k = all_values b k ∷ pairs b k

-- an edition of the rules says "exactly one" in its own way. `helpers k`: how many helper variables an option of k values
-- has. `option b h k`: its clauses, where b variables stand before its values and h before its helpers
pub record Edition : Type 0 where
  pub helpers : ℕ → ℕ
  pub option : ℕ → ℕ → ℕ → List Clause

-- helper t of an option, where h variables stand before its helpers
abbrev pub helper_number : ℕ → ℕ → ℕ
helper_number h t = suc (h + t)

-- edition 1: all values, then pairs; no helpers
abbrev pub edition1 : Edition
edition1 = record { helpers = λ k. 0; option = λ b h k. pairwise b k }

-- ---- T, not F, root, where there are D values

abbrev pub units : ℕ → List Clause
units D = (plain (reference_number D 1) ∷ []) ∷ (negated (reference_number D 0) ∷ []) ∷ (plain (reference_number D 2) ∷ []) ∷ []

-- ---- an edge: e is its variable's number, v its node's, m its target's and x its value's

abbrev pub t2 : ℕ → ℕ → Clause
t2 e v = negated e ∷ plain v ∷ []

abbrev pub t3 : ℕ → ℕ → Clause
t3 e m = negated e ∷ plain m ∷ []

abbrev pub t4 : ℕ → ℕ → Clause
t4 e x = negated e ∷ plain x ∷ []

abbrev pub t5 : ℕ → ℕ → ℕ → Clause
t5 e m x = negated m ∷ negated x ∷ plain e ∷ []

abbrev pub t2to5 : ℕ → ℕ → ℕ → ℕ → List Clause
t2to5 e v m x = t2 e v ∷ t3 e m ∷ t4 e x ∷ t5 e m x ∷ []

-- ---- a node of k edges: v is its variable's number, f gives its edges', and each edge j has the clauses g j

abbrev pub t1 : ℕ → (ℕ → ℕ) → ℕ → Clause
t1 v f k = negated v ∷ one_of f k

abbrev pub t1to5 : ℕ → (ℕ → ℕ) → (ℕ → List Clause) → ℕ → List Clause
t1to5 v f g k = t1 v f k ∷ up_to k g

-- ---- a diagram

-- of the edge of value j of node v
abbrev pub edge_clauses : Lent → ℕ → ℕ → List Clause
edge_clauses d v j = t2to5 (edge_variable d v j) (node_variable d v) (target_variable d v j) (asked_variable d v j)

-- of node v: T1, and then T2 to T5 of each of its edges in value order
abbrev pub node_clauses : Lent → ℕ → List Clause
node_clauses d v = t1to5 (node_variable d v) (λ j. edge_variable d v j) (λ j. edge_clauses d v j) (width d v)

module _ (e : Edition) (d : Lent) where
  -- how many variables stand before the helpers of option i: they come after the last edge, option by option
  unfoldable pub first_helper : ℕ → ℕ
  first_helper i = last_edge_variable d + sum_to i (λ i. e.helpers (domain d i))

  -- V: the last variable's number
  abbrev pub last_variable : ℕ
  last_variable = first_helper (options d)

  abbrev pub option_clauses : ℕ → List Clause
  option_clauses i = e.option (first_value d i) (first_helper i) (domain d i)

  -- the list: for each option its clauses; T, not F, root; for each node its clauses
  unfoldable pub clauses : List Clause
  clauses = up_to (options d) option_clauses ++ (units (values d) ++ up_to (nodes d) (node_clauses d))
