-- The way back from the solver. For any setting that satisfies the clauses, a model that names it reads back as exactly its
-- build; and whatever is read as a build is what the model says, is allowed, and has exactly one setting. Options and values
-- count from 0; `last` is V. Assumes nothing.
use Rattle.std.specs.Prelude.{◌≡◌, Bool, true, List, [], ◌∷◌, ℕ, suc, ◌≤◌, ◌<◌, ℤ, length, take, drop}
use Rattle.lists.specs.Upto.{up_to}
use Rattle.lists.specs.Every.{Every}
use Rattle.cnf.specs.Clause.{says, Setting, holds, Satisfies}
use Rattle.cnf.specs.Words.{clauses_of}
use Rattle.cnf.specs.declared.Encoded.TheVariants.{Written}
use Rattle.cnf.specs.declared.EncodeAnswer.{EncodeAnswer}
use Rattle.cnf.specs.declared.Tally.{Tally}
use Rattle.diagram.specs.Lent.{Lent, options, domain, chosen, RootAllows}
use Rattle.diagram.specs.Sound.{Sound}
use Rattle.judge.specs.Build.{Fits}
use Rattle.clauses.specs.Variables.{value_variable}
use Rattle.clauses.specs.Clauses.{Edition, last_variable, clauses}
use Rattle.encoding.specs.Promise.{EncodePromise}
use Rattle.model.specs.Model.{Named, WellNamed, BuildOf}
use Rattle.model.specs.Promise.{ModelPromise}
use Rattle.model.specs.declared.ModelRead.TheVariants.{Built}
use Rattle.model.specs.declared.ModelAnswer.{ModelAnswer}
use Rattle.demands.specs.Demand3.{Gives, OneSetting}

-- the model names the setting, in whatever order: each literal names a variable from 1 to V and is true under the setting,
-- none names a value variable again, and every value variable that the setting makes true is named
pub record Names (d : Lent) (last : ℕ) (σ : Setting) (m : List ℤ) : Type 0 where
  pub well_named : WellNamed d m last
  pub true_there : Every (λ l. holds σ l ≡ true) m
  pub trues_named : (i j : ℕ) → i < options d → j < domain d i → σ (value_variable d i j) ≡ true → Named m (value_variable d i j)

-- what the setting says of the variable u + 1, and the literal that says it
abbrev pub truth_of : Setting → ℕ → Bool
truth_of σ u = σ (suc u)

abbrev pub literal_of : Setting → ℕ → ℤ
literal_of σ u = says (truth_of σ u) (suc u)

-- the model that names every variable from 1 to V, in order
abbrev pub model_of : ℕ → Setting → List ℤ
model_of last σ = up_to last (λ u. literal_of σ u ∷ [])

-- the setting's build comes back: "built" is answered, the list begins with the build that the setting gives, and the rest
-- of the list is kept
pub record ComesBack (d : Lent) (σ : Setting) (before : List ℕ) (answer : ModelAnswer) (after : List ℕ) : Type 0 where
  pub build : List ℕ
  pub fits : Fits d build
  pub gives : Gives d (chosen build) σ
  pub allowed : RootAllows d (chosen build)
  pub answered : answer.outcome ≡ Built (options d)
  pub front : take (options d) after ≡ build
  pub rest : drop (options d) after ≡ drop (options d) before

-- n entries were read as this build of a sound diagram: it is what the named true literals say, gives each option a value of
-- its range, and the diagram allows it, so that it has exactly one setting; and the list is kept past it
pub record WasRead (e : Edition) (d : Lent) (m : List ℤ) (n : ℕ) (before after : List ℕ) (build : List ℕ) : Type 0 where
  pub sound : Sound d
  pub counted : n ≡ options d
  pub is_said : BuildOf d m build
  pub fits : Fits d build
  pub allowed : RootAllows d (chosen build)
  pub one_setting : OneSetting d (last_variable e d) (clauses e d) (chosen build)
  pub rest : drop n after ≡ drop n before

-- ---- the statement, of an edition

pub record ReadBack (e : Edition) : Type 0 where
  -- of a sound diagram's list: any setting that satisfies it, any model that names the setting, any list with room enough
  pub reads_back : (d : Lent) → Sound d → (σ : Setting) → Satisfies σ (clauses e d) → (m : List ℤ) → Names d (last_variable e d) σ m
      → (before : List ℕ) (answer : ModelAnswer) (after : List ℕ) → ModelPromise e d m before answer after → options d ≤ length before → ComesBack d σ before answer after
  -- the same from `encode` to `read_model`: of the clauses that the buffer's words tell, with V as `encode`'s answer gives it
  pub written : (d : Lent) (room : List ℤ) (encoded : EncodeAnswer) (buffer : List ℤ) → EncodePromise e d room encoded buffer → (t : Tally) → encoded.outcome ≡ Written t
      → (σ : Setting) → Satisfies σ (clauses_of (take t.words buffer)) → (m : List ℤ) → Names d t.variables σ m
      → (before : List ℕ) (answer : ModelAnswer) (after : List ℕ) → ModelPromise e d m before answer after → options d ≤ length before → ComesBack d σ before answer after
  -- the model that names every variable, in order, is such a model
  pub in_order : (d : Lent) (σ : Setting) → Names d (last_variable e d) σ (model_of (last_variable e d) σ)
  -- whatever is read as a build, from whatever model
  pub was_read : (d : Lent) (m : List ℤ) (before : List ℕ) (answer : ModelAnswer) (after : List ℕ) → ModelPromise e d m before answer after → (n : ℕ) → answer.outcome ≡ Built n → WasRead e d m n before after (take n after)
