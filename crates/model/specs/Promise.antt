-- What `read_model` promises for every input: its whole answer, and what the lent list holds afterwards. Assumes nothing.
use Rattle.std.specs.Prelude.{◌≡◌, List, [], ◌∷◌, ℕ, ℤ, length, get_or}
use Rattle.std.proofs.Common.{ap}
use Rattle.lists.specs.Buffer.{over}
use Rattle.refusal.specs.Rules.{Rule}
use Rattle.refusal.specs.Said.{Said, refused, result_of}
use Rattle.refusal.specs.Answered.{AnsweredBy, answered_once}
use Rattle.refusal.proofs.SaidLaws.{refused_one}
use Rattle.diagram.specs.Lent.{Lent, options}
use Rattle.clauses.specs.Clauses.{Edition}
use Rattle.model.specs.Rules.{build_of, model_rules}
use Rattle.model.specs.declared.ModelRead.{ModelRead}
use Rattle.model.specs.declared.ModelRead.TheVariants.{Built, Refused}
use Rattle.model.specs.declared.ModelAnswer.{ModelAnswer}

-- the number and the values of each case
abbrev pub model_said : ModelRead → Said
model_said (Built n) = result_of (n ∷ [])
model_said (Refused r) = refused r

-- the answer is the first refusal of the rules that is due, and the list is kept; or else the build stands at the list's
-- front, the rest of it is kept, and the answer gives the number of options
abbrev pub ReadBy : List Rule → Lent → List ℤ → List ℕ → ModelAnswer → List ℕ → Type 0
ReadBy rules d m before answer after = AnsweredBy model_said rules (options d ∷ []) (over (build_of d m) before) before answer.outcome after

abbrev pub ModelPromise : Edition → Lent → List ℤ → List ℕ → ModelAnswer → List ℕ → Type 0
ModelPromise e d m before = ReadBy (model_rules d m e (length before)) d m before

-- no two cases say the same
pub model_said_once : (a b : ModelRead) → model_said a ≡ model_said b → a ≡ b
model_said_once (Built n) (Built k) p = ap Built (ap (λ (s : Said). get_or s.values 0 0) p)
model_said_once (Built n) (Refused r) p = let q = ap (λ (s : Said). s.values) p in cc
model_said_once (Refused r) (Built n) p = let q = ap (λ (s : Said). s.values) p in cc
model_said_once (Refused r) (Refused s) p = ap Refused (refused_one r s p)

-- any two outcomes that the promise allows are equal: the answers, and what the list holds
pub model_one_outcome : (e : Edition) (d : Lent) (m : List ℤ) (before : List ℕ) (a b : ModelAnswer) (after after' : List ℕ) → ModelPromise e d m before a after → ModelPromise e d m before b after' → (a ≡ b) × (after ≡ after')
model_one_outcome e d m before a b after after' p q = let w = answered_once model_said_once p q in (ap (λ (o : ModelRead). record { outcome = o }) w.0, w.1)
