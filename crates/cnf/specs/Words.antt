-- A word list read as clauses: every 0 closes one. Assumes nothing.
use Rattle.std.specs.Prelude.{◌≡◌, Bool, true, false, cond, List, [], ◌∷◌, ℕ, ◌+◌, ℤ}
use Rattle.lists.specs.Every.{Every}
use Rattle.lists.specs.Signed.{is_zero}
use Rattle.cnf.specs.Clause.{Clause}

-- a literal before the clauses that are closed after it: it is the first one's. Where none is, its own clause is not
-- closed, and is no clause
unfoldable pub start_with : ℤ → List Clause → List Clause
start_with l [] = []
start_with l (c ∷ cs) = (l ∷ c) ∷ cs

-- the clauses of a word list
unfoldable pub clauses_of : List ℤ → List Clause
clauses_of [] = []
clauses_of (w ∷ ws) = cond (is_zero w) ([] ∷ clauses_of ws) (start_with w (clauses_of ws))

-- how many words are 0: the clause count of a word list
unfoldable pub zeros : List ℤ → ℕ
zeros [] = 0
zeros (w ∷ ws) = cond (is_zero w) (zeros ws + 1) (zeros ws)

-- the last word, if there is one, is 0
unfoldable pub closed : List ℤ → Bool
closed [] = true
closed (w ∷ []) = is_zero w
closed (w ∷ v ∷ ws) = closed (v ∷ ws)

-- no literal of the clause is 0; and so of each clause
abbrev pub NoZero : Clause → Type 0
NoZero = Every (λ l. is_zero l ≡ false)

abbrev pub NoZeros : List Clause → Type 0
NoZeros = Every NoZero
