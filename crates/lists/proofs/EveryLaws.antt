-- Laws of what holds of every entry of a list. Assumes nothing.
use mathlib.Core.Path.{◌≡◌, refl, sym, subst}
use mathlib.Core.Logic.{◌⊎◌, inl, inr}
use mathlib.Core.List.Memᴰ
use mathlib.Core.List.{List, [], ◌∷◌, ◌++◌, Memᴰ}
use Prim.Native.Nat.{ℕ, zero, suc, ◌<◌}
use native.Mathlib.Omega.{arith}
use lib.ListN.{length, get_or}
use Rattle.lists.specs.Upto.{up_to}
use Rattle.lists.specs.Every.{Every, Each}
use Rattle.lists.proofs.UptoLaws.{of_list}

module _ {A : Type 0} (P : A → Type 0) where
  pub every_none : Every P []
  every_none x m = absurd (Memᴰ.not-nil m)

  pub every_more : {x : A} {xs : List A} → P x → Every P xs → Every P (x ∷ xs)
  every_more p g y (Memᴰ.head e) = subst P (sym e) p
  every_more p g y (Memᴰ.tail m) = g y m

  pub every_both : (xs : List A) {ys : List A} → Every P xs → Every P ys → Every P (xs ++ ys)
  every_both xs {ys} g h x m = go (Memᴰ.append_cases xs m)
    where
      go : Memᴰ x xs ⊎ Memᴰ x ys → P x
      go (inl l) = g x l
      go (inr l) = h x l

  pub every_up_to : (n : ℕ) (f : ℕ → List A) → ((k : ℕ) → k < n → Every P (f k)) → Every P (up_to n f)
  every_up_to n f g x m = let t = of_list f n m in g t.0 t.1 x t.2

  pub each_every : (xs : List A) → Each P xs → Every P xs
  each_every [] e = every_none
  each_every (x ∷ xs) e = every_more e.0 (each_every xs e.1)

-- an entry is in the list
pub entry_in : {A : Type 0} (a : A) (l : List A) (k : ℕ) → k < length l → Memᴰ (get_or l k a) l
entry_in a [] k h = absurd (omega arith)
entry_in a (x ∷ l) zero h = Memᴰ.head refl
entry_in a (x ∷ l) (suc k) h = Memᴰ.tail (entry_in a l k (omega arith))

-- what is in the list is an entry
pub in_entry : {A : Type 0} (a : A) {x : A} (l : List A) → Memᴰ x l → (k : ℕ) × (k < length l) × (get_or l k a ≡ x)
in_entry {A = A} a [] x'' = elim x'' [ ]
in_entry a (y ∷ l) (Memᴰ.head e) = (0, omega arith, sym e)
in_entry a (y ∷ l) (Memᴰ.tail m) = let t = in_entry a l m in let h : t.0 < length l = t.1 in (suc t.0, omega arith, t.2)
