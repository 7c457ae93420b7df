-- What an edition's clauses of an option of k values have to be, where b variables stand before the values and h before the
-- helpers: satisfied exactly by one true value with one setting of the helpers; one value ruled in rules out the others by
-- propagation; all ruled out conflict. Then, that they speak of the option's own variables, and how many they are. Assumes
-- nothing.
use Rattle.std.specs.Prelude.{◌≡◌, ◌↔◌, Bool, ℕ, ◌<◌, eqb, ℤ, nat_abs, length}
use Rattle.lists.specs.Every.{Every}
use Rattle.cnf.specs.Clause.{Clause, plain, negated, words, Setting, Satisfies, Reached, Conflict}
use Rattle.diagram.specs.Numbers.{value_number}
use Rattle.clauses.specs.Clauses.{Edition, helper_number}

-- the setting makes value j true and no other, and has the helpers as they are to be
pub record ValueIs (e : Edition) (helper : ℕ → ℕ → ℕ → Bool) (b h k : ℕ) (σ : Setting) (j : ℕ) : Type 0 where
  pub below : j < k
  pub value_is : (i : ℕ) → i < k → σ (value_number b i) ≡ eqb i j
  pub helper_is : (t : ℕ) → t < e.helpers k → σ (helper_number h t) ≡ helper k j t

-- the literal of value j alone; the negations of all values alone
abbrev pub OneIn : ℕ → ℕ → ℤ → Type 0
OneIn b j l = l ≡ plain (value_number b j)

abbrev pub AllOut : ℕ → ℕ → ℤ → Type 0
AllOut b k l = (j : ℕ) × (j < k) × (l ≡ negated (value_number b j))

pub record ExactlyOne (e : Edition) : Type 0 where
  -- what helper t is where value j of k is the true one
  pub helper : ℕ → ℕ → ℕ → Bool
  -- from the negations of all values propagation reaches a conflict
  pub conflicts : (b h k : ℕ) → Conflict (AllOut b k) (e.option b h k)
  -- from value j it reaches the negation of each other value
  pub rules_out : (b h k i j : ℕ) → i < k → j < k → (i ≡ j → ⊥) → Reached (OneIn b j) (e.option b h k) (negated (value_number b i))
  -- a setting satisfies the clauses exactly where some value is the one true value, and the helpers are as they are to be for it
  pub satisfied_exactly : (b h k : ℕ) (σ : Setting) → Satisfies σ (e.option b h k) ↔ ((j : ℕ) × ValueIs e helper b h k σ j)

-- ---- variables

-- what holds of the variable of each literal
abbrev pub Literals : (ℕ → Type 0) → Clause → Type 0
Literals P = Every (λ l. P (nat_abs l))

-- the variables of the option
pub data Own (e : Edition) (b h k : ℕ) : ℕ → Type 0 where
  own_value : (j : ℕ) → j < k → Own e b h k (value_number b j)
  own_helper : (t : ℕ) → t < e.helpers k → Own e b h k (helper_number h t)

-- the clauses of an option speak of its own values and helpers alone
abbrev pub OwnVariables : Edition → Type 0
OwnVariables e = (b h k : ℕ) → Every (Literals (Own e b h k)) (e.option b h k)

-- ---- counts

-- an option of k values has so many clauses, and so many words
pub record OptionCounts (e : Edition) (of_clauses of_words : ℕ → ℕ) : Type 0 where
  pub clauses_are : (b h k : ℕ) → length (e.option b h k) ≡ of_clauses k
  pub words_are : (b h k : ℕ) → length (words (e.option b h k)) ≡ of_words k
