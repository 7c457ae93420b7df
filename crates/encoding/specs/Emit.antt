-- A node's clauses by what is lent to its emitter, and no more of the diagram than that; and what an emitter promises for
-- every input. Assumes nothing.
use Rattle.std.specs.Prelude.{◌≡◌, Bool, cond, ◌&&◌, List, [], ℕ, ◌+◌, ◌%◌, leb, ℤ, length, get_or}
use Rattle.lists.specs.Buffer.{Front}
use Rattle.lists.proofs.BufferLaws.{front_same}
use Rattle.cnf.specs.Clause.{Clause}
use Rattle.diagram.specs.Numbers.{value_number, reference_number, edge_number}
use Rattle.limits.specs.declared.TheConstants.{MAX_VARIABLES}
use Rattle.clauses.specs.Clauses.{t2to5, t1to5}
use Rattle.encoding.specs.declared.Bases.{Bases}

-- what a node's variables and so many targets are, added up
abbrev pub bases_sum : Bases → ℕ → ℕ
bases_sum b k = b.node + b.edge + b.value + b.reference + k

-- a node by the variables that its clauses are counted from; and ts are its targets
module _ (b : Bases) (ts : List ℕ) where
  -- T2 to T5 of its edge j. The target is taken modulo 2 ^ 20: so no list of targets has to be looked through before its
  -- clauses are written, and no target that a diagram can have is changed
  abbrev pub edge_from : ℕ → List Clause
  edge_from j = t2to5 (b.edge + j) b.node (b.reference + get_or ts j 0 % 1048576) (b.value + j)

  -- all its clauses
  abbrev pub node_from : List Clause
  node_from = t1to5 b.node (λ j. b.edge + j) edge_from (length ts)

  -- what its variables' numbers are counted from, added up
  abbrev pub numbers_from : ℕ
  numbers_from = bases_sum b (length ts)

-- the bases of node v, whose first edge is number `edge` and whose option has b values before it, in a diagram of D values
-- and s nodes
abbrev pub lent_bases : ℕ → ℕ → ℕ → ℕ → ℕ → Bases
lent_bases D s b edge v = record { node = reference_number D (v + 2); edge = edge_number D s edge; value = value_number b 0; reference = reference_number D 0 }

-- its clauses, where ts are its targets
module _ (D s b edge : ℕ) (ts : List ℕ) (v : ℕ) where
  abbrev pub lent_node : List Clause
  lent_node = node_from (lent_bases D s b edge v) ts

  abbrev pub lent_numbers : ℕ
  lent_numbers = numbers_from (lent_bases D s b edge v) ts

-- ---- what an emitter promises

-- numbers that add up to n are few enough for variables counted from them
abbrev pub few : ℕ → Bool
few n = leb n MAX_VARIABLES

-- the words, where they fit into the room and the numbers that they are counted from are few enough; otherwise none
unfoldable pub fitting : ℕ → ℕ → List ℤ → List ℤ
fitting n room ws = cond (few n && leb (length ws) room) ws []

-- the words stand at the front of the lent part, and the answer counts them; or, where they do not fit, the part is kept and
-- the answer is 0
abbrev pub EmitPromise : ℕ → List ℤ → List ℤ → List ℤ → ℕ → Type 0
EmitPromise n ws before after count = Front before (fitting n (length before) ws) after count

-- any two outcomes that the promise allows are equal: what the part holds, and the counts
pub emit_one_outcome : (n : ℕ) (ws before after after' : List ℤ) (count count' : ℕ) → EmitPromise n ws before after count → EmitPromise n ws before after' count' → (after ≡ after') × (count ≡ count')
emit_one_outcome n ws before after after' count count' p q = front_same p q
