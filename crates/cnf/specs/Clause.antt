-- Clauses over numbered variables, their words, what it is to satisfy them, and unit propagation.
-- A literal is an integer other than 0: a variable's number, negated for "not". Assumes nothing.
use Rattle.std.specs.Prelude.{◌≡◌, Bool, true, false, not, ℕ, zero, suc, ℤ, pos, negsuc, neg_ℤ}
use mathlib.Core.List.{List, [], ◌∷◌, ◌++◌, Memᴰ}

abbrev pub Clause : Type 0
Clause = List ℤ

-- the literal of the variable with the number n, and its negation
abbrev pub plain : ℕ → ℤ
plain n = pos n

abbrev pub negated : ℕ → ℤ
negated n = neg_ℤ (pos n)

-- the literal that says of the variable what a truth value says
abbrev pub says : Bool → ℕ → ℤ
says true n = plain n
says false n = negated n

-- the words of a clause list: each clause's literals, then 0
unfoldable pub words : List Clause → List ℤ
words [] = []
words (c ∷ cs) = c ++ (pos 0 ∷ words cs)

-- a setting gives a truth value to each variable by its number
abbrev pub Setting : Type 0
Setting = ℕ → Bool

-- a literal under a setting; 0 is no literal, and never holds
abbrev pub holds : Setting → ℤ → Bool
holds σ (pos zero) = false
holds σ (pos (suc n)) = σ (suc n)
holds σ (negsuc n) = not (σ (suc n))

-- some literal of the clause holds
pub record Held (σ : Setting) (c : Clause) : Type 0 where
  pub lit : ℤ
  pub among : Memᴰ lit c
  pub true_there : holds σ lit ≡ true

abbrev pub Satisfies : Setting → List Clause → Type 0
Satisfies σ cs = (c : Clause) → Memᴰ c cs → Held σ c

-- each clause of the one list stands in the other
abbrev pub Among : List Clause → List Clause → Type 0
Among ds cs = (c : Clause) → Memᴰ c ds → Memᴰ c cs

-- what unit propagation reaches: the given literals; and a literal that some clause contains, where the negation of each
-- other literal of that clause is reached
pub data Reached (Given : ℤ → Type 0) (cs : List Clause) : ℤ → Type 0 where
  given : {l : ℤ} → Given l → Reached Given cs l
  unit : {l : ℤ} (c : Clause) → Memᴰ c cs → Memᴰ l c → ((m : ℤ) → Memᴰ m c → (m ≡ l → ⊥) → Reached Given cs (neg_ℤ m)) → Reached Given cs l

-- a clause with the negation of every literal reached
pub record Conflict (Given : ℤ → Type 0) (cs : List Clause) : Type 0 where
  pub clause : Clause
  pub among : Memᴰ clause cs
  pub against : (m : ℤ) → Memᴰ m clause → Reached Given cs (neg_ℤ m)
