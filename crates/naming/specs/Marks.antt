-- What the functions inside `read_names`, and those that read the marks, say to each other of them: one byte for each value
-- variable, the first variable's first. Assumes nothing.
use Rattle.std.specs.Prelude.{◌≡◌, Bool, not, cond, ◌&&◌, List, ℕ, suc, ◌-◌, ◌≤◌, ◌<◌, leb, eqb, ℤ, length, get_or, set, None}
use Rattle.lists.specs.First.{first}
use Rattle.lists.specs.Signed.{beyond}
use Rattle.literals.specs.Literals.{literal, variable}
use Rattle.naming.specs.Naming.{mark, again}

-- a literal names a variable up to D
abbrev pub names_value : ℕ → ℤ → Bool
names_value D l = not (beyond D l)

abbrev pub value_at : ℕ → List ℤ → ℕ → Bool
value_at D m k = names_value D (literal m k)

-- the variable x is one up to D, and has a mark
unfoldable pub is_marked : ℕ → ℕ → List ℕ → Bool
is_marked D x ms = leb x D && not (eqb (get_or ms (x - 1) 0) 0)

-- the marks with k for x, where x is at most D and had none
unfoldable pub noted : ℕ → ℕ → ℕ → List ℕ → List ℕ
noted D x k ms = cond (leb x D && eqb (get_or ms (x - 1) 0) 0) (set ms (x - 1) k) ms

-- the same two of any number, of which 0 is no variable's
abbrev pub has_mark : ℕ → ℕ → List ℕ → Bool
has_mark D x ms = leb 1 x && is_marked D x ms

abbrev pub with_mark : ℕ → ℕ → ℕ → List ℕ → List ℕ
with_mark D x k ms = cond (leb 1 x) (noted D x k ms) ms

-- the marks are what the first k literals say of the variables 1 to D, and 0 for those beyond
pub record Marks (D : ℕ) (m : List ℤ) (k : ℕ) (ms : List ℕ) : Type 0 where
  pub whole : length ms ≡ 2048
  pub said : (u : ℕ) → u < D → get_or ms u 0 ≡ mark m k (suc u)
  pub rest : (u : ℕ) → D ≤ u → u < 2048 → get_or ms u 0 ≡ 0

-- none of the first k literals names a variable up to D again, and the marks are what they say
abbrev pub NotedTo : ℕ → List ℤ → ℕ → List ℕ → Type 0
NotedTo D m k ms = (first (again D m) k ≡ None) × Marks D m k ms

-- the variable u + 1 is marked true
abbrev pub marked_true : List ℕ → ℕ → Bool
marked_true ms u = eqb (get_or ms u 0) 1

-- each literal names a variable
abbrev pub EachNames : List ℤ → Type 0
EachNames m = (k : ℕ) → k < length m → 1 ≤ variable m k
