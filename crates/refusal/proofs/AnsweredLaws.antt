-- How a function comes to an answer by rules, and what its answer tells. Assumes nothing.
use Rattle.std.specs.Prelude.{Ok, Err}
use mathlib.Core.Path.{◌≡◌, refl, sym, ◌∙◌, ap}
use mathlib.Core.Logic.{◌↔◌}
use mathlib.Core.List.{List, ◌∷◌, ◌++◌}
use Prim.Native.Nat.{ℕ}
use Rattle.refusal.specs.Rules.{Verdict, Rule, chain}
use Rattle.refusal.specs.Said.{Said, refused, result_of, saying, leaving}
use Rattle.refusal.specs.Answered.{AnsweredBy}
use Rattle.refusal.specs.Table.{Row, ExactlyWhen}
use Rattle.refusal.specs.declared.Refusal.{Refusal}
use Rattle.refusal.proofs.RulesLaws.{refuses, passes}
use Rattle.refusal.proofs.SaidLaws.{refused_as, said_passed}
use Rattle.refusal.proofs.TableLaws.{Faithful, exactly_when}

-- ---- how it comes to its answer

module _ {A B : Type 0} (said : A → Said) (values : List ℕ) (written before : B) where
  -- a refusal, and a result
  pub by_refusal : {rules : List Rule} {r : Refusal} {a : A} → said a ≡ refused r → chain rules ≡ Err r → AnsweredBy said rules values written before a before
  by_refusal e q = record { says = rw q e; buffer = rw q }

  pub by_result : {rules : List Rule} {a : A} {after : B} → said a ≡ result_of values → chain rules ≡ Ok tt → after ≡ written → AnsweredBy said rules values written before a after
  by_result e q b = record { says = rw q e; buffer = rw q b }

  -- the first rules refuse; or they pass, and the later ones decide
  module _ (first later : List Rule) where
    pub first_refuse : {r : Refusal} {a : A} → said a ≡ refused r → chain first ≡ Err r → AnsweredBy said (first ++ later) values written before a before
    first_refuse e q = by_refusal e (sym (refuses first later refl q) ∙ q)

    pub goes_on : {a : A} {after : B} → chain first ≡ Ok tt → AnsweredBy said later values written before a after → AnsweredBy said (first ++ later) values written before a after
    goes_on q j =
        let w = passes first later refl q refl in
        record {
          says = j.says ∙ ap (λ (v : Verdict). saying v values) w;
          buffer = j.buffer ∙ ap (λ (v : Verdict). leaving v written before) w;
        }

-- ---- what it tells, where `no` makes a refusal an answer

pub record Told {A B : Type 0} (said : A → Said) (no : Refusal → A) (rules : List Rule) (values : List ℕ) (written before : B) (answer : A) (after : B) : Type 1 where
  -- where the rules compute a table: each number is given exactly when the first row that is due gives it
  pub told_when : (table : List Row) → Faithful rules table → ExactlyWhen table (λ r. answer ≡ no r)
  -- a refusal keeps the buffer
  pub told_keeps : (r : Refusal) → answer ≡ no r → after ≡ before
  -- an answer that says values is given exactly when the rules pass and these are the result's
  pub told_result : (given : A) (u : ℕ) (us : List ℕ) → said given ≡ result_of (u ∷ us) → (answer ≡ given) ↔ ((chain rules ≡ Ok tt) × (said given ≡ result_of values))
  -- where they pass, the buffer holds what is written
  pub told_leaves : chain rules ≡ Ok tt → after ≡ written

-- where no two answers say the same, and a result has values
module _ {A B : Type 0} (said : A → Said) (once : (a b : A) → said a ≡ said b → a ≡ b) (no : Refusal → A) (says-no : (r : Refusal) → said (no r) ≡ refused r) where
  pub told : {rules : List Rule} {v : ℕ} {vs : List ℕ} {written before : B} {answer : A} {after : B} → AnsweredBy said rules (v ∷ vs) written before answer after → Told said no rules (v ∷ vs) written before answer after
  told {rules} {v} {vs} {answer = answer} promise =
      record {
        told_when = λ table f. exactly_when rules table f refused_exactly;
        told_keeps = λ r q. promise.buffer ∙ rw ((refused_exactly r).0 q);
        told_result = λ given u us e. (
          (λ q. let p = said_passed (chain rules) u us v vs (sym (ap said q ∙ e) ∙ promise.says) in (p, ap said (sym q) ∙ promise.says ∙ rw p)),
          (λ w. once answer given (promise.says ∙ rw w.0 (sym w.1))),
        );
        told_leaves = λ p. promise.buffer ∙ rw p;
      }
    where
      refused_exactly : (r : Refusal) → (answer ≡ no r) ↔ (chain rules ≡ Err r)
      refused_exactly = refused_as said once no says-no answer (chain rules) v vs promise.says
