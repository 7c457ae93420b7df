-- A lent buffer after words were written into it: at its front, or from an index on. Assumes nothing.
use Rattle.std.specs.Prelude.{◌≡◌, List, ◌++◌, ℕ, ◌+◌, length, drop}
use Rattle.std.proofs.lemmas.List.Edits.{sets}

-- the buffer after xs was written at its front: xs, and then what the buffer has past them
unfoldable pub over : {A : Type 0} → List A → List A → List A
over xs buf = xs ++ drop (length xs) buf

-- l' is l with ws stored from the index at on, and r is the index past them
pub record Wrote {A : Type 0} (l : List A) (at : ℕ) (ws l' : List A) (r : ℕ) : Type 0 where
  pub list : l' ≡ sets l at ws
  pub next : r ≡ at + length ws

-- the promise of a function that is lent a part and writes at its front: l' is l with ws over it, and r counts them
pub record Front {A : Type 0} (l ws l' : List A) (r : ℕ) : Type 0 where
  pub list : l' ≡ over ws l
  pub next : r ≡ length ws
