-- Demand 3: what the clauses mean. An allowed build has exactly one setting of the variables 1 to V; one not allowed has
-- none, and unit propagation from its values alone reaches a conflict. Every setting that satisfies the clauses gives each
-- option exactly one value, and that build is allowed. With it, the same propagation for half_finished orders; all of it of
-- what `encode` has written, too; and the first two of the builds that `judge` has answered "allowed" and "not allowed".
-- Options and values count from 0; `last` is V. Assumes nothing.
use Rattle.std.specs.Prelude.{◌≡◌, ◌↔◌, true, List, ℕ, ◌≤◌, ◌<◌, ℤ, take}
use Rattle.cnf.specs.Clause.{Clause, plain, Setting, Satisfies, Conflict}
use Rattle.cnf.specs.Words.{clauses_of}
use Rattle.cnf.specs.declared.Encoded.TheVariants.{Written}
use Rattle.cnf.specs.declared.EncodeAnswer.{EncodeAnswer}
use Rattle.cnf.specs.declared.Tally.{Tally}
use Rattle.diagram.specs.Lent.{Lent, options, domain, chosen, Build, RootAllows}
use Rattle.diagram.specs.Sound.{Sound}
use Rattle.judge.specs.Build.{Fits}
use Rattle.judge.specs.Promise.{JudgePromise}
use Rattle.judge.specs.declared.Judged.TheVariants.{Allowed, NotAllowed}
use Rattle.judge.specs.declared.JudgeAnswer.{JudgeAnswer}
use Rattle.clauses.specs.Variables.{value_variable}
use Rattle.clauses.specs.Clauses.{Edition, last_variable, option_clauses, clauses}
use Rattle.encoding.specs.Promise.{EncodePromise}
use Rattle.demands.specs.HalfFinished.{Order, OrderLiteral, HalfFinished}

-- ---- words, for a build that gives option i the value x i

-- a setting for the build: the variable of each option's value is true, and every clause is satisfied. (Then those of the
-- option's other values are false: `every_satisfying`, below.)
pub record SettingFor (d : Lent) (cs : List Clause) (x : ℕ → ℕ) (σ : Setting) : Type 0 where
  pub agrees : (i : ℕ) → i < options d → σ (value_variable d i (x i)) ≡ true
  pub satisfies : Satisfies σ cs

-- the two settings are the same on every variable from 1 to V
abbrev pub SameTo : ℕ → Setting → Setting → Type 0
SameTo last σ τ = (n : ℕ) → 1 ≤ n → n ≤ last → σ n ≡ τ n

-- the setting gives each option exactly one value of its range, and that is the build's
pub record Gives (d : Lent) (x : ℕ → ℕ) (σ : Setting) : Type 0 where
  pub in_range : Build d x
  pub exactly : (i j : ℕ) → i < options d → j < domain d i → (σ (value_variable d i j) ≡ true) ↔ (j ≡ x i)

-- the build alone: the positive literal of each option's value, and no other literal
pub record BuildLiteral (d : Lent) (x : ℕ → ℕ) (l : ℤ) : Type 0 where
  pub option : ℕ
  pub there : option < options d
  pub names : l ≡ plain (value_variable d option (x option))

-- there is a setting for the build, and any two are the same on every variable from 1 to V
pub record OneSetting (d : Lent) (last : ℕ) (cs : List Clause) (x : ℕ → ℕ) : Type 0 where
  pub setting : Setting
  pub for_it : SettingFor d cs x setting
  pub no_other : (σ τ : Setting) → SettingFor d cs x σ → SettingFor d cs x τ → SameTo last σ τ

-- there is none, and unit propagation from the build alone reaches a conflict
pub record NoSetting (d : Lent) (cs : List Clause) (x : ℕ → ℕ) : Type 0 where
  pub none : (σ : Setting) → SettingFor d cs x σ → ⊥
  pub conflict : Conflict (BuildLiteral d x) cs

-- ---- of a list of clauses, in whatever form builds are given: `IsBuild x` says that x is a build of the diagram's ranges,
-- and `value x i` is the value that it gives option i

pub record Meaning (d : Lent) (last : ℕ) (cs : List Clause) {B : Type 0} (IsBuild : B → Type 0) (value : B → ℕ → ℕ) : Type 0 where
  -- an allowed build has exactly one setting
  pub allowed : (x : B) → IsBuild x → RootAllows d (value x) → OneSetting d last cs (value x)
  -- one not allowed has none, and propagation from it alone conflicts
  pub not_allowed : (x : B) → IsBuild x → (RootAllows d (value x) → ⊥) → NoSetting d cs (value x)
  -- every satisfying setting gives each option exactly one value, and that build is allowed
  pub every_satisfying : (σ : Setting) → Satisfies σ cs → (x : B) × IsBuild x × Gives d (value x) σ × RootAllows d (value x)
  -- settings speak of the variables 1 to V: whether one satisfies the clauses is a matter of these alone
  pub only_to_last : (σ τ : Setting) → SameTo last σ τ → Satisfies σ cs → Satisfies τ cs
  -- and for half_finished orders
  pub half_finished : HalfFinished d cs IsBuild value

-- ---- the demand, of an edition

pub record Demand3 (e : Edition) : Type 0 where
  -- the list of a sound diagram, with a build as a list of n values, the form in which the library takes it
  pub with_lists : (d : Lent) → Sound d → Meaning d (last_variable e d) (clauses e d) (Fits d) chosen
  -- and with a build as a function that gives each option its value
  pub with_functions : (d : Lent) → Sound d → Meaning d (last_variable e d) (clauses e d) (Build d) (λ x. x)
  -- what `encode` has written: the clauses that the buffer's words tell, with V as the answer gives it
  pub written : (d : Lent) (before : List ℤ) (answer : EncodeAnswer) (after : List ℤ) → EncodePromise e d before answer after → (t : Tally) → answer.outcome ≡ Written t → Meaning d t.variables (clauses_of (take t.words after)) (Fits d) chosen
  -- where `judge` answers "allowed" the build has exactly one setting, where it answers "not allowed" none, and a conflict
  pub judged_allowed : (d : Lent) (build : List ℕ) (answer : JudgeAnswer) → JudgePromise d build answer → answer.outcome ≡ Allowed → OneSetting d (last_variable e d) (clauses e d) (chosen build)
  pub judged_not_allowed : (d : Lent) (build : List ℕ) (answer : JudgeAnswer) → JudgePromise d build answer → answer.outcome ≡ NotAllowed → NoSetting d (clauses e d) (chosen build)
  -- an option with every value ruled out: its own clauses conflict, whatever the diagram is
  pub option_out : (d : Lent) (o : Order) (i : ℕ) → i < options d → ((j : ℕ) → j < domain d i → o.ruled_out i j ≡ true) → Conflict (OrderLiteral d o) (option_clauses e d i)
