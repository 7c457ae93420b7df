-- Half-finished orders: unit propagation where any values of any options are ruled in or out. It is the paper's Theorem 3 for
-- our clauses: a whole build is an order, too. Assumes nothing.
use Rattle.std.specs.Prelude.{◌≡◌, Bool, true, false, List, ℕ, ◌<◌, ℤ}
use Rattle.cnf.specs.Clause.{Clause, plain, negated, Conflict}
use Rattle.diagram.specs.Lent.{Lent, options, domain, RootAllows}
use Rattle.clauses.specs.Variables.{value_variable}

-- which values of which options are ruled in, and which out. Nothing is asked of it: an order that rules a value both in and
-- out, or two of an option in, fits no build, and conflicts. What it says of other options and values is of no account
pub record Order : Type 0 where
  pub ruled_in : ℕ → ℕ → Bool
  pub ruled_out : ℕ → ℕ → Bool

-- the order's literals: the value's own where it is ruled in, its negation where it is ruled out, and no other
pub data OrderLiteral (d : Lent) (o : Order) (l : ℤ) : Type 0 where
  literal_in : (i j : ℕ) → i < options d → j < domain d i → o.ruled_in i j ≡ true → l ≡ plain (value_variable d i j) → OrderLiteral d o l
  literal_out : (i j : ℕ) → i < options d → j < domain d i → o.ruled_out i j ≡ true → l ≡ negated (value_variable d i j) → OrderLiteral d o l

-- a build that gives option i the value x i has every value that is ruled in, and none that is ruled out
pub record FitsOrder (d : Lent) (o : Order) (x : ℕ → ℕ) : Type 0 where
  pub keeps_in : (i j : ℕ) → i < options d → j < domain d i → o.ruled_in i j ≡ true → j ≡ x i
  pub keeps_out : (i : ℕ) → i < options d → o.ruled_out i (x i) ≡ false

-- in whatever form builds are given: `IsBuild x` says that x is a build of the diagram's ranges, and `value x i` is the value
-- that it gives option i
pub record HalfFinished (d : Lent) (cs : List Clause) {B : Type 0} (IsBuild : B → Type 0) (value : B → ℕ → ℕ) : Type 0 where
  -- where no allowed build fits, propagation from the order's literals alone conflicts
  pub none_fits : (o : Order) → ((x : B) → IsBuild x → FitsOrder d o (value x) → RootAllows d (value x) → ⊥) → Conflict (OrderLiteral d o) cs
  -- where one fits, it does not
  pub one_fits : (o : Order) (x : B) → IsBuild x → FitsOrder d o (value x) → RootAllows d (value x) → Conflict (OrderLiteral d o) cs → ⊥
