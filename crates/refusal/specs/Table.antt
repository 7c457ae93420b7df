-- A table of refusals, as a person writes it: its rows are asked one after the other, and each has a number and the condition
-- under which it is due at a place. A number may stand in more than one row. Assumes nothing.
use Rattle.std.specs.Prelude.{◌≡◌, List, [], ◌∷◌, ◌⊎◌, ◌↔◌, ℕ, ◌≤◌}
use Rattle.refusal.specs.Rules.{refusal}
use Rattle.refusal.specs.declared.Refusal.{Refusal}

-- a number, and what it is that it is due at a place
pub data Row : Type 1 where
  row : ℕ → (ℕ → Type 0) → Row

-- number 7: the `needed` entries do not fit into a lent buffer of `room`, and they are its place
abbrev pub room_row : ℕ → ℕ → Row
room_row needed room = row 7 (λ p. (p ≡ needed) × (needed ≤ room → ⊥))

-- number n is given at place p: the first row has that number and is due there; or it is due nowhere, and so it is by a
-- later row
abbrev pub GivenIn : List Row → ℕ → ℕ → Type 0
GivenIn [] n p = ⊥
GivenIn (row m due ∷ rows) n p = ((n ≡ m) × due p) ⊎ (((q : ℕ) → due q → ⊥) × GivenIn rows n p)

-- no row is due anywhere
abbrev pub NoneDue : List Row → Type 0
NoneDue [] = Unit {0}
NoneDue (row m due ∷ rows) = ((q : ℕ) → due q → ⊥) × NoneDue rows

-- `Is r` says that the answer is the refusal r: exactly when the table gives it; and nothing is refused exactly when no row
-- is due
pub record ExactlyWhen (table : List Row) (Is : Refusal → Type 0) : Type 0 where
  pub refused : (n p : ℕ) → Is (refusal n p) ↔ GivenIn table n p
  pub not_refused : ((r : Refusal) → Is r → ⊥) ↔ NoneDue table
