-- Laws of a rule list's verdict: how code that goes through it in parts comes to it. Assumes nothing.
use Rattle.std.specs.Prelude.{Option, Some, None, Ok, Err}
use mathlib.Core.Path.{◌≡◌, refl}
use mathlib.Core.Bool.{Bool, true, false}
use mathlib.Core.List.{List, [], ◌∷◌, ◌++◌}
use Prim.Native.Nat.{ℕ}
use native.Mathlib.Omega.{arith}
use Rattle.lists.specs.First.{found_if}
use Rattle.refusal.specs.Rules.{Verdict, Rule, rule, and_then, chain}
use Rattle.refusal.specs.declared.Refusal.{Refusal}

-- a refusal of the first rules stands; where they pass the later ones decide
pub chain-append : (xs ys : List Rule) → chain (xs ++ ys) ≡ and_then (chain xs) (chain ys)
unfolding chain
chain-append [] ys = refl
chain-append (rule n None ∷ xs) ys = chain-append xs ys
chain-append (rule n (Some p) ∷ xs) ys = refl

-- the first of two rules or more, and then the others
pub chain_first : (x y : Rule) (rules : List Rule) → chain (x ∷ y ∷ rules) ≡ and_then (chain (x ∷ [])) (chain (y ∷ rules))
chain_first x y rules = chain-append (x ∷ []) (y ∷ rules)

-- a part refuses; a part passes, and the rest decides
pub refuses : (xs ys : List Rule) {v : Verdict} {r : Refusal} → v ≡ chain xs → v ≡ Err r → v ≡ chain (xs ++ ys)
refuses xs ys p q = rw (chain-append xs ys, ← p, q)

pub passes : (xs ys : List Rule) {u v : Verdict} → u ≡ chain xs → u ≡ Ok tt → v ≡ chain ys → v ≡ chain (xs ++ ys)
passes xs ys p q e = rw (chain-append xs ys, ← p, q) e

-- a rule by one test: it is due at 0, or the later rules decide
pub tested : (n : ℕ) (rules : List Rule) {b : Bool} {v : Verdict} → b ≡ true → v ≡ chain (rule n (Some 0) ∷ []) → v ≡ chain (rule n (found_if b 0) ∷ rules)
unfolding chain
tested n rules e f = rw e f

pub not_tested : (n : ℕ) (rules : List Rule) {b : Bool} {v : Verdict} → b ≡ false → v ≡ chain rules → v ≡ chain (rule n (found_if b 0) ∷ rules)
unfolding chain
not_tested n rules e f = rw e f

pub and_passed : (v w : Verdict) → and_then v w ≡ Ok tt → (v ≡ Ok tt) × (w ≡ Ok tt)
and_passed (Ok tt) w e = (refl, e)
and_passed (Err r) w e = (e, cc)

pub passed : (xs ys : List Rule) → chain (xs ++ ys) ≡ Ok tt → (chain xs ≡ Ok tt) × (chain ys ≡ Ok tt)
passed xs ys e = and_passed (chain xs) (chain ys) (rw chain-append at e)

-- where a list passes, no rule of it is due
pub not_due : (n : ℕ) (due : Option ℕ) (rules : List Rule) → chain (rule n due ∷ rules) ≡ Ok tt → (due ≡ None) × (chain rules ≡ Ok tt)
unfolding chain
not_due n None rules e = (refl, e)
not_due n (Some p) rules e = (cc, cc)

pub never_both : (v : Verdict) {r : Refusal} → v ≡ Ok tt → v ≡ Err r → ⊥
never_both v p q = let z : ◌≡◌ {A = ℕ} 0 1 = cc in omega arith
