-- A function with its value at one index put to another, and a function chosen index by index. Assumes nothing.
use mathlib.Core.Path.{◌≡◌, refl, sym, subst}
use mathlib.Core.Bool.{cond}
use mathlib.Core.Logic.{⊎_elim}
use Prim.Native.Nat.{ℕ, zero, suc, ◌<◌}
use native.Mathlib.Nat.{not-suc-le-zero}
use native.Mathlib.Omega.{arith}
use lib.Dec.{eqb}
use borrow.Author.Tests.{eq-eqb, ne_eqb}
use Rattle.lists.proofs.UptoLaws.{last_or_below}

-- x with its value at i put to j
abbrev pub put : (ℕ → ℕ) → ℕ → ℕ → ℕ → ℕ
put x i j k = cond (eqb k i) j (x k)

pub put_same : (x : ℕ → ℕ) (i j : ℕ) → put x i j i ≡ j
put_same x i j = rw (eq-eqb i i refl)

pub put_other : (x : ℕ → ℕ) (i j k : ℕ) → (k ≡ i → ⊥) → put x i j k ≡ x k
put_other x i j k n = rw (ne_eqb k i n)

-- where each index below n has a number with the property, some function has such numbers
pub choose : (P : ℕ → ℕ → Type 0) (n : ℕ) → ((i : ℕ) → i < n → (j : ℕ) × P i j) → (x : ℕ → ℕ) × ((i : ℕ) → i < n → P i (x i))
choose P zero f = ((λ i. 0), (λ i h. absurd (not-suc-le-zero h)))
choose P (suc n) f = go (f n (omega arith)) (choose P n (λ i h. f i (omega arith)))
  where
    go : (j : ℕ) × P n j → (x : ℕ → ℕ) × ((i : ℕ) → i < n → P i (x i)) → (x : ℕ → ℕ) × ((i : ℕ) → i < suc n → P i (x i))
    go t r = (put r.0 n t.0, λ i h. ⊎_elim (λ (e : i ≡ n). last i e) (λ (l : i < n). below i l) (last_or_below i n h))
      where
        last : (i : ℕ) → i ≡ n → P i (put r.0 n t.0 i)
        last i e = subst (λ (k : ℕ). P k (put r.0 n t.0 k)) (sym e) (subst (P n) (sym (put_same r.0 n t.0)) t.1)

        below : (i : ℕ) → i < n → P i (put r.0 n t.0 i)
        below i l = subst (P i) (sym (put_other r.0 n t.0 i (λ e. omega arith))) (r.1 i l)
