-- Laws of the clause "at least one of k variables": the clause of all values of an option, and the tail of T1. Assumes
-- nothing.
use mathlib.Core.Path.{◌≡◌, refl, sym, ◌∙◌, subst}
use mathlib.Core.Bool.{true}
use mathlib.Core.List.Memᴰ
use mathlib.Core.List.{List, [], ◌∷◌, Memᴰ}
use Prim.Native.Nat.{ℕ, ◌<◌}
use lib.Dec.{eqb}
use lib.IntN.{ℤ, neg_ℤ, nat_abs}
use borrow.Author.Tests.{eq-eqb}
use Rattle.lists.proofs.UptoLaws.{in_list, of_list}
use Rattle.lists.proofs.EveryLaws.{every_up_to, each_every}
use Rattle.cnf.specs.Clause.{Clause, plain, negated, Setting, holds, Held, Reached, given, Conflict}
use Rattle.diagram.specs.Numbers.{value_number}
use Rattle.clauses.specs.Clauses.{one_of, all_values}
use Rattle.clauses.specs.Editions.{AllOut, Literals}

module _ (f : ℕ → ℕ) (k : ℕ) where
  pub one_of_held : (σ : Setting) (j : ℕ) → j < k → holds σ (plain (f j)) ≡ true → Held σ (one_of f k)
  one_of_held σ j h e = record { lit = plain (f j); among = in_list (λ j. plain (f j) ∷ []) k j h (Memᴰ.head refl); true_there = e }

  -- each of them ruled out is each literal ruled out
  pub one_of_out : (R : ℤ → Type 0) → ((j : ℕ) → j < k → R (negated (f j))) → (l : ℤ) → Memᴰ l (one_of f k) → R (neg_ℤ l)
  one_of_out R g l m = let t = of_list (λ j. plain (f j) ∷ []) k m in subst (λ (l : ℤ). R (neg_ℤ l)) (sym (Memᴰ.eq_of_singleton t.2)) (g t.0 t.1)

  pub one_of_literals : (P : ℕ → Type 0) → ((j : ℕ) → j < k → P (f j)) → Literals P (one_of f k)
  one_of_literals P g = every_up_to (λ l. P (nat_abs l)) k (λ j. plain (f j) ∷ []) (λ j h. each_every (λ l. P (nat_abs l)) (plain (f j) ∷ []) (g j h, tt))

-- ---- all values of an option

pub values_held : (b k j : ℕ) → j < k → (σ : Setting) → ((i : ℕ) → i < k → σ (value_number b i) ≡ eqb i j) → Held σ (all_values b k)
values_held b k j h σ f = one_of_held (λ j. value_number b j) k σ j h (f j h ∙ eq-eqb j j refl)

pub values_conflict : (b k : ℕ) (cs : List Clause) → Memᴰ (all_values b k) cs → Conflict (AllOut b k) cs
values_conflict b k cs m = record { clause = all_values b k; among = m; against = one_of_out (λ j. value_number b j) k (Reached (AllOut b k) cs) (λ j h. given (j, h, refl)) }
