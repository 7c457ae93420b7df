-- What is said of a verdict tells the verdict. Assumes nothing.
use Rattle.std.specs.Prelude.{Ok, Err}
use mathlib.Core.Path.{◌≡◌, refl, sym, ◌∙◌, ap}
use mathlib.Core.Logic.{◌↔◌}
use mathlib.Core.List.{List, ◌∷◌}
use Prim.Native.Nat.{ℕ}
use native.Mathlib.Omega.{arith}
use lib.ListN.{length}
use Rattle.refusal.specs.Rules.{Verdict, refusal}
use Rattle.refusal.specs.Said.{Said, refused, result_of, saying, giving}
use Rattle.refusal.specs.declared.Refusal.{Refusal}

refusals : (n p n' p' : ℕ) → n ≡ n' → p ≡ p' → refusal n p ≡ refusal n' p'
refusals n p n' p' e f = rw (e, f)

-- one refusal for what is said
pub refused_one : (r s : Refusal) → refused r ≡ refused s → r ≡ s
refused_one r s e = refusals r.number r.place s.number s.place (ap (λ (t : Said). t.number) e) (ap (λ (t : Said). t.place) e)

-- a refusal says no values, a result some
pub refused_or_result : (r : Refusal) (v : ℕ) (vs : List ℕ) → refused r ≡ result_of (v ∷ vs) → ⊥
refused_or_result r v vs e = omega (arith, ap (λ (t : Said). length t.values) e)

said_refused : (w : Verdict) (r : Refusal) (v : ℕ) (vs : List ℕ) → refused r ≡ saying w (v ∷ vs) → w ≡ Err r
said_refused (Ok tt) r v vs e = absurd (refused_or_result r v vs e)
said_refused (Err s) r v vs e = ap Err (sym (refused_one r s e))

pub said_passed : (w : Verdict) (u : ℕ) (us : List ℕ) (v : ℕ) (vs : List ℕ) → result_of (u ∷ us) ≡ saying w (v ∷ vs) → w ≡ Ok tt
said_passed (Ok tt) u us v vs e = refl
said_passed (Err r) u us v vs e = absurd (refused_or_result r u us (sym e))

-- an answer that says what a verdict says, by a definition that says no two cases alike, is a refusal exactly where the
-- verdict is that refusal
module _ {A : Type 0} (said : A → Said) (once : (a b : A) → said a ≡ said b → a ≡ b) (no : Refusal → A) (says-no : (r : Refusal) → said (no r) ≡ refused r) where
  pub refused_as : (a : A) (w : Verdict) (v : ℕ) (vs : List ℕ) → said a ≡ saying w (v ∷ vs) → (r : Refusal) → (a ≡ no r) ↔ (w ≡ Err r)
  refused_as a w v vs p r = (
    (λ e. said_refused w r v vs (sym (ap said e ∙ says-no r) ∙ p)),
    (λ e. once a (no r) (p ∙ ap (λ (u : Verdict). saying u (v ∷ vs)) e ∙ sym (says-no r))),
  )

-- what a function gives back after a verdict tells the verdict
pub passed_given : {A : Type 0} (v : Verdict) (y : A) {x : A} → Ok x ≡ giving v y → (v ≡ Ok tt) × (x ≡ y)
passed_given (Ok tt) y e = (refl, cc)
passed_given (Err r) y e = (cc, cc)

pub refused_given : {A : Type 0} (v : Verdict) (y : A) {r : Refusal} → Err r ≡ giving v y → v ≡ Err r
refused_given (Ok tt) y e = cc
refused_given (Err s) y e = cc
