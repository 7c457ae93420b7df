-- How `layer_end` and `layer_edges` come to their answers. Assumes nothing.
use Rattle.std.specs.Prelude.{Option, Some, None}
use mathlib.Core.Path.{◌≡◌, sym, ap, ◌∙◌}
use mathlib.Core.Bool.{false, not}
use mathlib.Core.List.{List}
use Prim.Native.Nat.{ℕ, ◌+◌, ◌-◌, ◌*◌, ◌≤◌, ◌<◌}
use native.Mathlib.Omega.{arith}
use lib.ListN.{length, take, get_or, get_or-eq_default, drop}
use lib.Seq.{get_or-take, get_or-drop}
use native.Mathlib.Nat.{le_refl}
use Rattle.diagram.proofs.RangeLaws.{part_length}
use lib.Dec.{ltb}
use borrow.Author.Tests.{le-leb, lt-leb}
use Rattle.lists.specs.First.{first}
use Rattle.lists.proofs.FirstLaws.{start, pass, stop, first_agrees, found_least}
use Rattle.layer_ends.specs.Layers.{place_or, low_eight, past_eights, layer_end, layer_edges}

-- ---- eight at a time

-- v is past k eights, all of them low
pub record Skipping (ls : List ℕ) (from i v : ℕ) : Type 0 where
  pub k : ℕ
  pub place : v ≡ from + 8 * k
  pub inside : v ≤ length ls
  pub low : first (λ j. not (low_eight ls from i j)) k ≡ None

pub skip_none : (ls : List ℕ) (from i : ℕ) → from ≤ length ls → Skipping ls from i from
skip_none ls from i h = record { k = 0; place = omega arith; inside = h; low = start _ }

module _ {ls : List ℕ} {from i v : ℕ} (s : Skipping ls from i v) where
  pub skip_more : v + 8 ≤ length ls → get_or ls (v + 7) 0 ≤ i → Skipping ls from i (v + 8)
  skip_more h l =
      let e : from + 8 * s.k + 8 ≡ v + 8 = omega (arith, s.place) in
      let f : from + 8 * s.k + 7 ≡ v + 7 = omega (arith, s.place) in
      record {
        k = s.k + 1;
        place = omega (arith, s.place);
        inside = h;
        low = pass _ s.k s.low (rw (e, f, le-leb (v + 8) (length ls) h, le-leb (get_or ls (v + 7) 0) i l));
      }

  stops : low_eight ls from i s.k ≡ false → v ≡ past_eights ls from i
  unfolding past_eights
  stops e = s.place ∙ rw (← stop (λ j. not (low_eight ls from i j)) s.k (length ls + 1) s.low (ap not e) (omega (arith, s.place, s.inside)))

  pub skip_above : v + 8 ≤ length ls → i < get_or ls (v + 7) 0 → v ≡ past_eights ls from i
  skip_above h l =
      let e : from + 8 * s.k + 8 ≡ v + 8 = omega (arith, s.place) in
      let f : from + 8 * s.k + 7 ≡ v + 7 = omega (arith, s.place) in
      stops (rw (e, f, le-leb (v + 8) (length ls) h, lt-leb (get_or ls (v + 7) 0) i l))

  pub skip_end : length ls < v + 8 → v ≡ past_eights ls from i
  skip_end h = let e : from + 8 * s.k + 8 ≡ v + 8 = omega (arith, s.place) in stops (rw (e, lt-leb (v + 8) (length ls) h))

-- ---- and then one at a time

module _ (ls : List ℕ) (from i at : ℕ) (h : from ≤ length ls) (p : at ≡ past_eights ls from i) {f : Option ℕ} (found : f ≡ first (λ (j : ℕ). ltb i (get_or (take (length ls - at) (drop at ls)) j 0)) (length (take (length ls - at) (drop at ls)))) where
  ends : at + place_or (length ls - at) f ≡ layer_end ls from i
  unfolding layer_end
  ends =
      let n = part_length ls at (length ls) (le_refl _) in
      let e = found ∙ first_agrees _ (λ j. ltb i (get_or ls (at + j) 0)) (length (take (length ls - at) (drop at ls))) (λ j k. ap (ltb i) (get_or-take (length ls - at) (drop at ls) j 0 (omega (arith, k, n)) ∙ get_or-drop at ls j 0)) ∙ ap (first (λ j. ltb i (get_or ls (at + j) 0))) n in
      rw (le-leb from (length ls) h, ← p, ← e)

  pub ends_within : {k : ℕ} → at ≤ length ls → f ≡ Some k → at + k < length ls
  ends_within l e = omega (arith, l, part_length ls at (length ls) (le_refl _), found_least (λ (j : ℕ). ltb i (get_or (take (length ls - at) (drop at ls)) j 0)) _ _ (sym found ∙ e))

  pub ends_above : {k : ℕ} → f ≡ Some k → at + k ≡ layer_end ls from i
  ends_above e = rw e at ends

  pub ends_last : at ≤ length ls → f ≡ None → length ls ≡ layer_end ls from i
  ends_last l e = let q : length ls ≡ at + (length ls - at) = omega (arith, l) in q ∙ rw e at ends

-- past the list's end
pub past_end : (ls : List ℕ) (from i : ℕ) → length ls < from → from ≡ layer_end ls from i
unfolding layer_end
past_end ls from i h = rw (lt-leb from (length ls) h)

-- ---- the edges of some nodes of a layer

module _ (ds : List ℕ) (i count : ℕ) where
  pub edges_too_many : 4096 < count → 0 ≡ layer_edges ds i count
  unfolding layer_edges
  edges_too_many h = rw (lt-leb count 4096 h)

  module _ (h : count ≤ 4096) where
    pub edges_unasked : i ≡ 0 → 0 ≡ layer_edges ds i count
    unfolding layer_edges
    edges_unasked e = rw (le-leb count 4096 h, e)

    module _ (l : 1 ≤ i) where
      pub edges_asked : count * get_or ds (i - 1) 0 ≡ layer_edges ds i count
      unfolding layer_edges
      edges_asked = rw (le-leb count 4096 h, le-leb 1 i l)

      pub edges_beyond : length ds ≤ i - 1 → 0 ≡ layer_edges ds i count
      edges_beyond k = let z : 0 ≡ count * 0 = omega arith in z ∙ ap (λ (n : ℕ). count * n) (sym (get_or-eq_default ds 0 k)) ∙ edges_asked
