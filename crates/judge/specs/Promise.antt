-- What `judge` promises for every input: its whole answer. Assumes nothing.
use Rattle.std.specs.Prelude.{◌≡◌, refl, Bool, cond, List, [], ◌∷◌, ℕ, eqb}
use Rattle.std.proofs.Common.{sym, ◌∙◌, ap}
use Rattle.refusal.specs.Rules.{Rule, chain}
use Rattle.refusal.specs.Said.{Said, refused, result_of, saying}
use Rattle.refusal.proofs.SaidLaws.{refused_one}
use Rattle.diagram.specs.Lent.{Lent, chosen, end}
use Rattle.judge.specs.Build.{judge_rules}
use Rattle.judge.specs.declared.Judged.{Judged}
use Rattle.judge.specs.declared.Judged.TheVariants.{Allowed, NotAllowed, Refused}
use Rattle.judge.specs.declared.JudgeAnswer.{JudgeAnswer}

-- the number and the values of each case
abbrev pub judge_said : Judged → Said
judge_said Allowed = result_of (1 ∷ [])
judge_said NotAllowed = result_of (0 ∷ [])
judge_said (Refused r) = refused r

-- the test of `Allows`: the walk of the build ends at T
abbrev pub allows_test : Lent → List ℕ → Bool
allows_test d build = eqb (end d (chosen build) 2) 1

-- the answer of which nothing is refused
abbrev pub answer_of : Bool → JudgeAnswer
answer_of allowed = record { outcome = cond allowed Allowed NotAllowed }

-- the answer is the first refusal of the rules that is due, or whether the diagram allows the build
pub record JudgedBy (rules : List Rule) (d : Lent) (build : List ℕ) (answer : JudgeAnswer) : Type 0 where
  pub says : judge_said answer.outcome ≡ saying (chain rules) (cond (allows_test d build) 1 0 ∷ [])

abbrev pub JudgePromise : Lent → List ℕ → JudgeAnswer → Type 0
JudgePromise d build = JudgedBy (judge_rules d build) d build

-- no two cases say the same
pub judge_said_once : (a b : Judged) → judge_said a ≡ judge_said b → a ≡ b
judge_said_once Allowed Allowed p = refl
judge_said_once Allowed NotAllowed p = let q = ap (λ (s : Said). s.values) p in cc
judge_said_once Allowed (Refused r) p = let q = ap (λ (s : Said). s.values) p in cc
judge_said_once NotAllowed Allowed p = let q = ap (λ (s : Said). s.values) p in cc
judge_said_once NotAllowed NotAllowed p = refl
judge_said_once NotAllowed (Refused r) p = let q = ap (λ (s : Said). s.values) p in cc
judge_said_once (Refused r) Allowed p = let q = ap (λ (s : Said). s.values) p in cc
judge_said_once (Refused r) NotAllowed p = let q = ap (λ (s : Said). s.values) p in cc
judge_said_once (Refused r) (Refused s) p = ap Refused (refused_one r s p)

-- any two outcomes that the promise allows are equal
pub judge_one_outcome : (d : Lent) (build : List ℕ) (a b : JudgeAnswer) → JudgePromise d build a → JudgePromise d build b → a ≡ b
judge_one_outcome d build a b p q = ap (λ (o : Judged). record { outcome = o }) (judge_said_once a.outcome b.outcome (p.says ∙ sym q.says))
