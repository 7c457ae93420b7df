-- What a solver's model says of the options, and the table of what is refused where it is no allowed build: numbers 10 to
-- 13, after 1 to 7. A model is a list of literals. Options, values and literals count from 0. Assumes nothing.
use Rattle.std.specs.Prelude.{◌≡◌, ℕ, ◌≤◌, ◌<◌, ℤ, length}
use mathlib.Core.List.{List, [], ◌∷◌, ◌++◌, Memᴰ}
use Rattle.lists.specs.First.{FirstFailing}
use Rattle.refusal.specs.Table.{Row, row, room_row}
use Rattle.cnf.specs.Clause.{plain}
use Rattle.diagram.specs.Lent.{Lent, options, domain, chosen, RootAllows}
use Rattle.diagram.specs.Numbers.{values}
use Rattle.diagram.specs.Sound.{Within, check_table}
use Rattle.clauses.specs.Variables.{value_variable}
use Rattle.clauses.specs.Clauses.{Edition, last_variable}
use Rattle.literals.specs.Literals.{variable}

-- some literal of the model names the variable
abbrev pub Named : List ℤ → ℕ → Type 0
Named m x = (k : ℕ) × (k < length m) × (variable m k ≡ x)

-- the model names the variable true; a variable that it does not name counts as false
abbrev pub NamedTrue : List ℤ → ℕ → Type 0
NamedTrue m x = Memᴰ (plain x) m

-- ---- what each number from 10 to 13 asks for

-- 10: the literal at index k names a variable from 1 to `last`
abbrev pub InRange : ℕ → List ℤ → ℕ → Type 0
InRange last m k = Within 1 last (variable m k)

module _ (d : Lent) (m : List ℤ) where
  -- 11: no literal before index k names the same variable as the one at k, if that is a value variable: one up to D (and a
  -- literal 0 is number 10's)
  abbrev pub NamedFirst : ℕ → Type 0
  NamedFirst k = variable m k ≤ values d → (j : ℕ) → j < k → variable m j ≡ variable m k → ⊥

  -- j is the one value of option i that the model names true
  pub record ValueOf (i j : ℕ) : Type 0 where
    pub in_range : j < domain d i
    pub named_true : NamedTrue m (value_variable d i j)
    pub no_other : (k : ℕ) → k < domain d i → NamedTrue m (value_variable d i k) → k ≡ j

  -- 12: there is such a value
  abbrev pub OneValue : ℕ → Type 0
  OneValue i = (j : ℕ) × ValueOf i j

  -- the model's build: for each option its one true value
  pub record BuildOf (build : List ℕ) : Type 0 where
    pub whole : length build ≡ options d
    pub each : (i : ℕ) → i < options d → ValueOf i (chosen build i)

  -- 13: the diagram allows the model's build. (Without a build there is none that it allows; but then 12 is due before.)
  pub record AllowedBuild : Type 0 where
    pub build : List ℕ
    pub is_said : BuildOf build
    pub allowed : RootAllows d (chosen build)

  -- 10 and 11: each literal is in range, and none names a value variable again
  pub record WellNamed (last : ℕ) : Type 0 where
    pub ranged : (k : ℕ) → k < length m → InRange last m k
    pub named_first : (k : ℕ) → k < length m → NamedFirst k

  -- the model reads as this build: it names its variables well, the build is what it says, and the diagram allows the build
  pub record ReadsAs (e : Edition) (build : List ℕ) : Type 0 where
    pub well_named : WellNamed (last_variable e d)
    pub is_said : BuildOf build
    pub allowed : RootAllows d (chosen build)

  -- numbers 10 to 13, with their places
  abbrev pub literal_table : Edition → List Row
  literal_table e =
      row 10 (FirstFailing (length m) (InRange (last_variable e d) m))
      ∷ row 11 (FirstFailing (length m) NamedFirst)
      ∷ row 12 (FirstFailing (options d) OneValue)
      ∷ row 13 (λ p. (p ≡ 0) × (AllowedBuild → ⊥))
      ∷ []

  -- numbers 1 to 7, where n entries have to fit into a lent list of `room`, and 10 to 13
  abbrev pub model_table : Edition → ℕ → List Row
  model_table e room = check_table d ++ (room_row (options d) room ∷ literal_table e)
