-- What an answer tells that a verdict decides; and how code comes to one by rules. Assumes nothing.
use Rattle.std.specs.Prelude.{◌≡◌, List, ◌++◌, Ok, Err, Result, refl}
use Rattle.std.proofs.Common.{sym, ◌∙◌, ap}
use Rattle.refusal.specs.Rules.{Verdict, Rule, chain}
use Rattle.refusal.specs.Said.{leaving, giving}
use Rattle.refusal.specs.declared.Refusal.{Refusal}
use Rattle.refusal.proofs.RulesLaws.{refuses, passes}
use Rattle.dimacs.specs.Given.{GivenBy}

-- ---- what it tells: the verdict's refusal, or that it passed

pub given_refused : {A : Type 0} (w : Verdict) (a : A) {r : Refusal} → giving w a ≡ Err r → w ≡ Err r
given_refused (Ok u) a e = cc
given_refused (Err r) a e = cc

pub given_passed : {A : Type 0} (w : Verdict) (a : A) {b : A} → giving w a ≡ Ok b → (w ≡ Ok tt) × (b ≡ a)
given_passed (Ok u) a e = (refl, cc)
given_passed (Err r) a e = (cc, cc)

-- ---- how code comes to it

module _ {A B : Type 0} (given : A) (written before : B) where
  pub by_refusal : {rules : List Rule} {r : Refusal} → chain rules ≡ Err r → GivenBy rules given written before (Err r) before
  by_refusal q = record { gives = rw q; leaves = rw q }

  pub by_result : {rules : List Rule} {a : A} {after : B} → chain rules ≡ Ok tt → a ≡ given → after ≡ written → GivenBy rules given written before (Ok a) after
  by_result q e b = record { gives = rw (q, e); leaves = rw q b }

  -- the first rules refuse; or they pass, and the later ones decide
  module _ (first later : List Rule) where
    pub first_refuse : {r : Refusal} → chain first ≡ Err r → GivenBy (first ++ later) given written before (Err r) before
    first_refuse q = by_refusal (sym (refuses first later refl q) ∙ q)

    pub goes_on : {answer : Result A Refusal} {after : B} → chain first ≡ Ok tt → GivenBy later given written before answer after → GivenBy (first ++ later) given written before answer after
    goes_on q j =
        let w = passes first later refl q refl in
        record {
          gives = j.gives ∙ ap (λ (v : Verdict). giving v given) w;
          leaves = j.leaves ∙ ap (λ (v : Verdict). leaving v written before) w;
        }
