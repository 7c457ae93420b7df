-- What the marks say of the names: which literals name a variable, and how. Assumes nothing.
use mathlib.Core.Path.{◌≡◌, refl, sym, ◌∙◌, ap}
use mathlib.Core.Bool.{Bool, true, false, cond}
use mathlib.Core.List.{List}
use mathlib.Core.Logic.{◌⊎◌, inl, inr, ◌↔◌}
use Prim.Native.Nat.{ℕ, zero, suc, ◌<◌}
use native.Mathlib.Nat.{not-suc-le-zero}
use native.Mathlib.Omega.{arith}
use lib.Dec.{eqb}
use lib.IntN.{ℤ, pos, negsuc, nat_abs}
use borrow.Author.Tests.{eqb-true, eqb-false, eq-eqb, ne_eqb}
use Rattle.lists.specs.Signed.{is_negative}
use Rattle.lists.proofs.UptoLaws.{last_or_below}
use Rattle.literals.specs.Literals.{literal, variable}
use Rattle.naming.specs.Naming.{mark_of, mark}

-- a literal marks its variable, and with 1 only where it is the variable's own
marks : (l : ℤ) → mark_of l ≡ 0 → ⊥
unfolding is_negative
marks (pos n) e = omega arith
marks (negsuc n) e = omega arith

marks_true : (l : ℤ) → mark_of l ≡ 1 → l ≡ pos (nat_abs l)
unfolding is_negative
marks_true (pos n) e = refl
marks_true (negsuc n) e = absurd (omega arith)

module _ (m : List ℤ) where
  unmarked : (k x : ℕ) → mark m k x ≡ 0 → (j : ℕ) → j < k → variable m j ≡ x → ⊥
  unfolding mark
  unmarked zero x e j h q = not-suc-le-zero h
  unmarked (suc k) x e j h q = go (eqb (variable m k) x) refl e (last_or_below j k h) (λ r l. unmarked k x r j l q)
    where
      go : (b : Bool) → eqb (variable m k) x ≡ b → cond b (mark_of (literal m k)) (mark m k x) ≡ 0 → (j ≡ k) ⊎ (j < k) → (mark m k x ≡ 0 → j < k → ⊥) → ⊥
      go true t e c r = marks (literal m k) e
      go false t e (inl i) r = eqb-false (variable m k) x t (ap (variable m) (sym i) ∙ q)
      go false t e (inr l) r = r e l

  not_named : (k x : ℕ) → ((j : ℕ) → j < k → variable m j ≡ x → ⊥) → mark m k x ≡ 0
  unfolding mark
  not_named zero x g = refl
  not_named (suc k) x g = rw (ne_eqb (variable m k) x (g k (omega arith))) (not_named k x (λ j h. g j (omega arith)))

  -- the first k literals leave a variable unmarked exactly when none of them names it
  pub unmarked_exactly : (k x : ℕ) → (mark m k x ≡ 0) ↔ ((j : ℕ) → j < k → variable m j ≡ x → ⊥)
  unmarked_exactly k x = (unmarked k x, not_named k x)

  -- a variable marked true stands among them
  pub marked_named : (k x : ℕ) → mark m k x ≡ 1 → (j : ℕ) × (j < k) × (literal m j ≡ pos x)
  unfolding mark
  marked_named zero x e = absurd (omega arith)
  marked_named (suc k) x e = go (eqb (variable m k) x) refl e (marked_named k x)
    where
      go : (b : Bool) → eqb (variable m k) x ≡ b → cond b (mark_of (literal m k)) (mark m k x) ≡ 1 → (mark m k x ≡ 1 → (j : ℕ) × (j < k) × (literal m j ≡ pos x)) → (j : ℕ) × (j < suc k) × (literal m j ≡ pos x)
      go true t e r = (k, omega arith, marks_true (literal m k) e ∙ ap pos (eqb-true (variable m k) x t))
      go false t e r = let w = r e in let h : w.0 < k = w.1 in (w.0, omega arith, w.2)

  -- a literal's mark stays, where none after it names its variable x
  pub mark_stays : (k j x : ℕ) → j < k → variable m j ≡ x → ((i : ℕ) → j < i → i < k → variable m i ≡ x → ⊥) → mark m k x ≡ mark_of (literal m j)
  unfolding mark
  mark_stays zero j x h q g = absurd (not-suc-le-zero h)
  mark_stays (suc k) j x h q g = go (last_or_below j k h) (λ l. mark_stays k j x l q (λ i a b. g i a (omega arith)))
    where
      go : (j ≡ k) ⊎ (j < k) → (j < k → mark m k x ≡ mark_of (literal m j)) → mark m (suc k) x ≡ mark_of (literal m j)
      go (inl e) r = rw (eq-eqb (variable m k) x (ap (variable m) (sym e) ∙ q)) (ap (λ (i : ℕ). mark_of (literal m i)) (sym e))
      go (inr l) r = rw (ne_eqb (variable m k) x (g k l (omega arith))) (r l)
