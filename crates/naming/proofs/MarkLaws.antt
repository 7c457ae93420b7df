-- The marks follow the model, literal by literal; and those that the whole model leaves. Assumes nothing.
use Rattle.std.specs.Prelude.{None}
use mathlib.Core.Path.{◌≡◌, refl, sym, ◌∙◌, ap, subst}
use mathlib.Core.Bool.{Bool, true, false, not, cond, ◌&&◌}
use mathlib.Core.List.{List, [], ◌∷◌}
use Prim.Native.Nat.{ℕ, zero, suc, ◌+◌, ◌-◌, ◌≤◌, ◌<◌}
use native.Mathlib.Nat.{add-zero}
use native.Mathlib.Numerals.{add-one}
use native.Mathlib.Omega.{arith}
use lib.Dec.{ltb, leb, eqb}
use lib.IntN.{ℤ, pos}
use lib.ListN.{length, get_or, set, take, drop, length-set, length-drop, replicate, length-replicate, get_or-replicate}
use lib.Seq.{ext_get_or, get_or-set_same, get_or-set_other, length-take-le, get_or-take, get_or-drop}
use borrow.Author.Tests.{le-leb, lt-leb, leb-true, lt-ltb, le-ltb, ltb-true, ltb-false, ne_eqb, eqb-true, eqb-false, not-false}
use Rattle.lists.specs.Upto.{up_to}
use Rattle.lists.specs.First.{first}
use Rattle.lists.specs.Signed.{beyond}
use Rattle.lists.proofs.UptoLaws.{list_singles, list_at}
use Rattle.lists.proofs.FirstLaws.{none_bad, bad_none, on_none}
use Rattle.literals.specs.Literals.{literal, variable}
use Rattle.naming.specs.Naming.{mark_of, mark, again, mark_at, marks_of}
use Rattle.naming.specs.Marks.{value_at, is_marked, noted, Marks, NotedTo}

-- before the first literal there are none
pub no_marks : (D : ℕ) (m : List ℤ) → D ≤ 2048 → Marks D m 0 (replicate 2048 0)
unfolding mark
no_marks D m h = record { whole = length-replicate {A = ℕ} 2048 0; said = λ u l. get_or-replicate 2048 u 0 0 (omega arith); rest = λ u _ l. get_or-replicate 2048 u 0 0 l }

module _ {D : ℕ} {m : List ℤ} {k : ℕ} {ms : List ℕ} (marks : Marks D m k ms) (small : D ≤ 2048) (some : 1 ≤ variable m k) where
  mark_at_lem : variable m k ≤ D → get_or ms (variable m k - 1) 0 ≡ mark m k (variable m k)
  mark_at_lem h = let e : suc (variable m k - 1) ≡ variable m k = omega arith in marks.said (variable m k - 1) (omega arith) ∙ ap (mark m k) e

  -- the literal at k names a variable that has a mark exactly where it names one again
  pub marked_again : is_marked D (variable m k) ms ≡ again D m k
  unfolding is_marked again
  marked_again = go (leb (variable m k) D) refl
    where
      go : (b : Bool) → leb (variable m k) D ≡ b → (b && not (eqb (get_or ms (variable m k - 1) 0) 0)) ≡ (b && not (eqb (mark m k (variable m k)) 0))
      go false e = refl
      go true e = rw (mark_at_lem (leb-true (variable m k) D e))

  other : (t : Bool) (a u : ℕ) → (variable m k ≡ suc u → ⊥) → get_or (cond t (set ms (variable m k - 1) a) ms) u 0 ≡ get_or ms u 0
  other false a u n = refl
  other true a u n = get_or-set_other ms (variable m k - 1) u a 0 (λ e. n (omega arith))

  -- a loop's turn
  pub noted_marks : is_marked D (variable m k) ms ≡ false → Marks D m (k + 1) (noted D (variable m k) (mark_of (literal m k)) ms)
  unfolding noted is_marked mark
  noted_marks e = record { whole = same (leb (variable m k) D && eqb (get_or ms (variable m k - 1) 0) 0) ∙ marks.whole; said = λ u h. rw (add-one k) (go u h (eqb (variable m k) (suc u)) refl); rest = λ u h l. far u h (leb (variable m k) D) refl ∙ marks.rest u h l }
    where
      same : (b : Bool) → length (cond b (set ms (variable m k - 1) (mark_of (literal m k))) ms) ≡ length ms
      same true = length-set ms (variable m k - 1) (mark_of (literal m k))
      same false = refl

      free : variable m k ≤ D → eqb (get_or ms (variable m k - 1) 0) 0 ≡ true
      free l = not-false (eqb (get_or ms (variable m k - 1) 0) 0) (rw (le-leb (variable m k) D l) at e)

      far : (u : ℕ) → D ≤ u → (b : Bool) → leb (variable m k) D ≡ b → get_or (cond (b && eqb (get_or ms (variable m k - 1) 0) 0) (set ms (variable m k - 1) (mark_of (literal m k))) ms) u 0 ≡ get_or ms u 0
      far u h false e = refl
      far u h true e = other (eqb (get_or ms (variable m k - 1) 0) 0) (mark_of (literal m k)) u (λ q. omega (arith, leb-true (variable m k) D e))

      go : (u : ℕ) → u < D → (b : Bool) → eqb (variable m k) (suc u) ≡ b → get_or (noted D (variable m k) (mark_of (literal m k)) ms) u 0 ≡ cond b (mark_of (literal m k)) (mark m k (suc u))
      go u h true q =
          let p : variable m k ≡ suc u = eqb-true (variable m k) (suc u) q in
          let z : variable m k - 1 ≡ u = omega arith in
          rw (le-leb (variable m k) D (omega arith), free (omega arith), z) (get_or-set_same ms u (mark_of (literal m k)) 0 (omega (arith, marks.whole)))
      go u h false q = other (leb (variable m k) D && eqb (get_or ms (variable m k - 1) 0) 0) (mark_of (literal m k)) u (eqb-false (variable m k) (suc u) q) ∙ marks.said u h

-- ---- a stretch that names no value variable changes nothing

module _ (D : ℕ) (m : List ℤ) (a : ℕ) where
  same_mark : (n u : ℕ) → u < D → ((j : ℕ) → j < n → D < variable m (a + j)) → mark m (a + n) (suc u) ≡ mark m a (suc u)
  unfolding mark
  same_mark zero u h far = rw (add-zero a)
  same_mark (suc n) u h far =
      let l : D < variable m (a + n) = far n (omega arith) in
      let e : a + suc n ≡ suc (a + n) = omega arith in
      rw (e, ne_eqb (variable m (a + n)) (suc u) (λ q. omega arith)) (same_mark n u h (λ j k. far j (omega arith)))

  pub noted_on : {ms : List ℕ} (n : ℕ) → NotedTo D m a ms → ((j : ℕ) → j < n → D < variable m (a + j)) → NotedTo D m (a + n) ms
  unfolding again
  noted_on n w far = (
    on_none (again D m) a w.0 n (bad_none (λ j. again D m (a + j)) n (λ j h. rw (lt-leb (variable m (a + j)) D (far j h)))),
    record { whole = w.1.whole; said = λ u h. w.1.said u h ∙ sym (same_mark n u h far); rest = w.1.rest },
  )

-- so does a block, the part from a to before e, where a search finds no value variable
pub noted_past : (D : ℕ) (m : List ℤ) (a e : ℕ) {ms : List ℕ} → a ≤ e → e ≤ length m → first (value_at D (take (e - a) (drop a m))) (length (take (e - a) (drop a m))) ≡ None → NotedTo D m a ms → NotedTo D m e ms
noted_past D m a e {ms} l h none_found w = let q : a + (e - a) ≡ e = omega arith in subst (λ (k : ℕ). NotedTo D m k ms) q (noted_on D m a (e - a) w far)
  where
    far : (j : ℕ) → j < e - a → D < variable m (a + j)
    far j k =
        let part = take (e - a) (drop a m) in
        let whole : length part ≡ e - a = length-take-le (e - a) (drop a m) (omega (arith, length-drop a m)) in
        let none = none_bad (value_at D part) (length part) none_found j (omega arith) in
        let same : literal part j ≡ literal m (a + j) = get_or-take (e - a) (drop a m) j (pos 0) k ∙ get_or-drop a m j (pos 0) in
        ltb-true D (variable m (a + j)) (rw same at (not-false (beyond D (literal part j)) none))

-- ---- the marks that the whole model leaves

module _ (D : ℕ) (m : List ℤ) where
  mark_is : {ms : List ℕ} → Marks D m (length m) ms → (u : ℕ) → u < 2048 → get_or ms u 0 ≡ mark_at D m u
  unfolding mark_at
  mark_is {ms} w u l = go (ltb u D) refl
    where
      go : (b : Bool) → ltb u D ≡ b → get_or ms u 0 ≡ cond b (mark m (length m) (suc u)) 0
      go true e = w.said u (ltb-true u D e)
      go false e = w.rest u (ltb-false u D e) l

  -- they are no others than these
  pub marks_whole : {ms : List ℕ} → Marks D m (length m) ms → ms ≡ marks_of D m
  unfolding marks_of
  marks_whole {ms} w = ext_get_or 0 ms (up_to 2048 (λ u. mark_at D m u ∷ [])) (w.whole ∙ sym (list_singles 2048 (mark_at D m))) (λ u h. let l : u < 2048 = omega (arith, w.whole) in mark_is w u l ∙ sym (list_at 0 (mark_at D m) 2048 u l))

  pub marks_of_lem : D ≤ 2048 → Marks D m (length m) (marks_of D m)
  unfolding marks_of mark_at
  marks_of_lem small =
      record {
        whole = list_singles 2048 (mark_at D m);
        said = λ u h. list_at 0 (mark_at D m) 2048 u (omega arith) ∙ rw (lt-ltb u D h);
        rest = λ u h l. list_at 0 (mark_at D m) 2048 u l ∙ rw (le-ltb u D h);
      }
