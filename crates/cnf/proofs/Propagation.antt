-- Laws of unit propagation: what it reaches holds in every satisfying setting that has the given literals, and from more
-- literals and clauses it reaches more. Assumes nothing.
use mathlib.Core.Path.{◌≡◌, refl, sym, ◌∙◌, ap, subst}
use mathlib.Core.Logic.{◌⊎◌, inl, inr, ⊎_elim}
use mathlib.Core.Bool.{Bool, true, false, not, false≢true}
use mathlib.Core.List.{List, [], ◌∷◌, Memᴰ}
use Prim.Native.Nat.{ℕ, zero, suc}
use lib.IntN.{ℤ, pos, negsuc, neg_ℤ, ℤ_discrete}
use Rattle.lists.specs.Every.{Each}
use Rattle.lists.proofs.EveryLaws.{each_every}
use Rattle.cnf.specs.Clause.{Clause, Setting, says, holds, Held, Satisfies, Among, Reached, given, unit, Conflict}

-- ---- literals under a setting

module _ (σ : Setting) where
  -- a literal and its negation do not both hold
  pub not_both : (m : ℤ) → holds σ m ≡ true → holds σ (neg_ℤ m) ≡ true → ⊥
  not_both (pos zero) p q = false≢true p
  not_both (pos (suc n)) p q = false≢true (ap not (sym p) ∙ q)
  not_both (negsuc n) p q = false≢true (ap not (sym q) ∙ p)

  -- a clause's first literal holds, or a later one
  pub held_first : (l : ℤ) (c : Clause) → holds σ l ≡ true → Held σ (l ∷ c)
  held_first l c h = record { lit = l; among = Memᴰ.head refl; true_there = h }

  pub held_later : (l : ℤ) (c : Clause) → Held σ c → Held σ (l ∷ c)
  held_later l c h = record { lit = h.lit; among = Memᴰ.tail h.among; true_there = h.true_there }

  pub held_second : (l m : ℤ) (c : Clause) → holds σ m ≡ true → Held σ (l ∷ m ∷ c)
  held_second l m c h = held_later l (m ∷ c) (held_first m c h)

  -- a literal that says b of a variable, and holds, gives the variable the value b
  pub said : (b : Bool) (u : ℕ) → holds σ (says b (suc u)) ≡ true → σ (suc u) ≡ b
  said true u h = h
  said false u h = go (σ (suc u)) h
    where
      go : (b : Bool) → not b ≡ true → b ≡ false
      go true h = absurd (false≢true h)
      go false h = refl

-- ---- what is reached

module _ {Given : ℤ → Type 0} {cs : List Clause} where
  -- a literal of a clause of which each other one is ruled out
  pub unit_each : (c : Clause) {l : ℤ} → Memᴰ c cs → Memᴰ l c → Each (λ m. (m ≡ l) ⊎ Reached Given cs (neg_ℤ m)) c → Reached Given cs l
  unit_each c {l} mc ml e = unit c mc ml (λ m mm ne. ⊎_elim (λ (q : m ≡ l). absurd (ne q)) (λ r. r) (each_every (λ m. (m ≡ l) ⊎ Reached Given cs (neg_ℤ m)) c e m mm))

  -- of a clause of two, the one with the other ruled out
  pub first_reached : {l m : ℤ} → Memᴰ (l ∷ m ∷ []) cs → Reached Given cs (neg_ℤ m) → Reached Given cs l
  first_reached {l} {m} among r = unit_each (l ∷ m ∷ []) among (Memᴰ.head refl) (inl refl, (inr r, tt))

  pub second_reached : {l m : ℤ} → Memᴰ (l ∷ m ∷ []) cs → Reached Given cs (neg_ℤ l) → Reached Given cs m
  second_reached {l} {m} among r = unit_each (l ∷ m ∷ []) among (Memᴰ.tail (Memᴰ.head refl)) (inr r, (inl refl, tt))

  -- a setting that satisfies the clauses and has the given literals
  module _ (σ : Setting) (sat : Satisfies σ cs) (has : (l : ℤ) → Given l → holds σ l ≡ true) where
    pub reached_holds : {l : ℤ} → Reached Given cs l → holds σ l ≡ true
    reached_holds (given {l = l} g) = has l g
    reached_holds (unit {l = l} c mc ml others) = go (ℤ_discrete h.lit l) (λ ne. reached_holds (others h.lit h.among ne))
      where
        h : Held σ c
        h = sat c mc

        go : Dec (h.lit ≡ l) → ((h.lit ≡ l → ⊥) → holds σ (neg_ℤ h.lit) ≡ true) → holds σ l ≡ true
        go (yes e) r = subst (λ (m : ℤ). holds σ m ≡ true) e h.true_there
        go (no ne) r = absurd (not_both σ h.lit h.true_there (r ne))

    pub no_conflict : Conflict Given cs → ⊥
    no_conflict k = let h = sat k.clause k.among in not_both σ h.lit h.true_there (reached_holds (k.against h.lit h.among))

-- ---- more literals and more clauses

-- where each given literal is reached from others, by clauses that are among more
module _ {Given Given' : ℤ → Type 0} {cs ds : List Clause} (from : (l : ℤ) → Given l → Reached Given' ds l) (among : Among cs ds) where
  pub reached_through : {l : ℤ} → Reached Given cs l → Reached Given' ds l
  reached_through (given {l = l} g) = from l g
  reached_through (unit c mc ml others) = unit c (among c mc) ml (λ m mm ne. reached_through (others m mm ne))

  pub conflict_through : Conflict Given cs → Conflict Given' ds
  conflict_through k = record { clause = k.clause; among = among k.clause k.among; against = λ m mm. reached_through (k.against m mm) }

-- from more given literals and more clauses, what was reached still is
module _ {Given Given' : ℤ → Type 0} {cs ds : List Clause} (has : (l : ℤ) → Given l → Given' l) (among : Among cs ds) where
  pub conflict_more : Conflict Given cs → Conflict Given' ds
  conflict_more = conflict_through (λ l g. given (has l g)) among
