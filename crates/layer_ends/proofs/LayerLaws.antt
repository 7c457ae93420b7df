-- Where layers never fall, `layer_end` gives the first node above the layer; a layer's nodes, and their edges, then stand in one
-- stretch. Assumes nothing.
use Rattle.std.specs.Prelude.{Option, Some, None}
use mathlib.Core.Path.{◌≡◌, refl, sym, ◌∙◌, ap, subst}
use mathlib.Core.Bool.{Bool, true, false, not, and-eq-true_iff}
use mathlib.Core.List.{List}
use mathlib.Core.Logic.{⊎_elim}
use Prim.Native.Nat.{ℕ, zero, suc, ◌+◌, ◌-◌, ◌*◌, ◌≤◌, ◌<◌}
use native.Mathlib.Nat.{le_refl}
use native.Mathlib.Omega.{arith}
use lib.ListN.{length, get_or}
use lib.Dec.{ltb, leb}
use borrow.Author.Tests.{le-leb, leb-true, ltb-true, ltb-false, not-false}
use Rattle.lists.specs.Upto.{sum_to}
use Rattle.lists.specs.First.{first}
use Rattle.lists.proofs.UptoLaws.{below_or_not, sum_stretch}
use Rattle.lists.proofs.FirstLaws.{none_bad, found_least}
use Rattle.diagram.specs.Lent.{Lent, nodes, domain, layer, width, first_edge}
use Rattle.diagram.specs.Sound.{Rising, Shaped}
use Rattle.diagram.proofs.ShapedLaws.{layer_within, layers_rise}
use Rattle.layer_ends.specs.Layers.{place_or, low_eight, past_eights, layer_end, layer_edges, NoneAbove, LayerEnd}

-- ---- where a layer ends

-- nodes of layers up to i: none yet, and then some more
none_yet : (ls : List ℕ) (from i : ℕ) → from ≤ length ls → NoneAbove ls from i from
none_yet ls from i h = record { from_on = le_refl from; to_last = h; until = λ v l k. absurd (omega arith) }

some_more : {ls : List ℕ} {from i v : ℕ} (w : ℕ) → NoneAbove ls from i v → v ≤ w → w ≤ length ls → ((u : ℕ) → v ≤ u → u < w → get_or ls u 0 ≤ i) → NoneAbove ls from i w
some_more {v = v} w a l h f =
    record {
      from_on = omega (arith, a.from_on);
      to_last = h;
      until = λ u p q. ⊎_elim (λ (k : u < v). a.until u p k) (λ (k : v ≤ u). f u k q) (below_or_not u v);
    }

module _ (ls : List ℕ) (from i : ℕ) (rise : Rising ls) (h : from ≤ length ls) where
  -- n eights that are low
  eights : (n : ℕ) → ((k : ℕ) → k < n → low_eight ls from i k ≡ true) → NoneAbove ls from i (from + 8 * n)
  eights zero f = let e : from + 8 * 0 ≡ from = omega arith in rw e (none_yet ls from i h)
  eights (suc n) f =
      let w = (and-eq-true_iff (leb (from + 8 * n + 8) (length ls)) _).0 (f n (omega arith)) in
      let l : from + 8 * n + 8 ≤ length ls = leb-true _ _ w.0 in
      let m : get_or ls (from + 8 * n + 7) 0 ≤ i = leb-true _ _ w.1 in
      some_more (from + 8 * suc n) (eights n (λ k q. f k (omega arith))) (omega arith) (omega arith) (λ u p q. omega (arith, rise u (from + 8 * n + 7) (omega arith) (omega arith)))

  past : NoneAbove ls from i (past_eights ls from i)
  unfolding past_eights
  past = go (first (λ k. not (low_eight ls from i k)) (length ls + 1)) refl
    where
      go : (f : Option ℕ) → first (λ k. not (low_eight ls from i k)) (length ls + 1) ≡ f → NoneAbove ls from i (from + 8 * place_or 0 f)
      go (Some b) e = eights b (λ k l. not-false _ ((found_least (λ k. not (low_eight ls from i k)) (length ls + 1) b e).2 k l))
      go None e = eights 0 (λ k l. absurd (omega arith))

  layer_ends : LayerEnd ls from i (layer_end ls from i)
  unfolding layer_end
  layer_ends = rw (le-leb from (length ls) h) (go (first above (length ls - at)) refl)
    where
      at : ℕ
      at = past_eights ls from i

      above : ℕ → Bool
      above j = ltb i (get_or ls (at + j) 0)

      -- as far as no layer is above
      upto : (n : ℕ) → n ≤ length ls - at → ((k : ℕ) → k < n → above k ≡ false) → NoneAbove ls from i (at + n)
      upto n l f =
          some_more (at + n) past (omega arith) (omega (arith, past.to_last)) (λ u p q. let e : at + (u - at) ≡ u = omega arith in rw e at (ltb-false i (get_or ls (at + (u - at)) 0) (f (u - at) (omega arith))))

      go : (f : Option ℕ) → first above (length ls - at) ≡ f → LayerEnd ls from i (at + place_or (length ls - at) f)
      go (Some j) e = let w = found_least above (length ls - at) j e in record { none_above = upto j (omega (arith, w.0)) w.2; above = λ _. ltb-true i (get_or ls (at + j) 0) w.1 }
      go None e = record { none_above = upto (length ls - at) (le_refl _) (none_bad above (length ls - at) e); above = λ l. absurd (omega (arith, past.to_last)) }

-- in a diagram that has its shape
pub ends_layer : (d : Lent) → Shaped d → (from i end : ℕ) → from ≤ nodes d → end ≡ layer_end d.layers from i → LayerEnd d.layers from i end
ends_layer d s from i end h e = subst (LayerEnd d.layers from i) (sym e) (layer_ends d.layers from i (layers_rise d s) h)

-- ---- its nodes, and their edges

module _ (d : Lent) (s : Shaped d) (v next : ℕ) (hv : v < nodes d) (end : LayerEnd d.layers v (layer d v) next) where
  pub moves_on : v < next
  moves_on = ⊎_elim (λ (l : v < next). l) (λ (l : next ≤ v). absurd (stays l)) (below_or_not v next)
    where
      stays : next ≤ v → ⊥
      stays l =
          let e : next ≡ v = omega (arith, end.none_above.from_on) in
          let a : layer d v < layer d next = end.above (omega arith) in
          omega (arith, ap (layer d) e)

  -- all of its nodes are of one layer
  pub same_layer : (w : ℕ) → v ≤ w → w < next → layer d w ≡ layer d v
  same_layer w l k = omega (arith, end.none_above.until w l k, end.none_above.to_last, layers_rise d s v w l (let q : next ≤ nodes d = end.none_above.to_last in omega arith))

  stretch : first_edge d v + (next - v) * width d v ≡ first_edge d next
  unfolding first_edge
  stretch =
      let e : v + (next - v) ≡ next = omega (arith, end.none_above.from_on) in
      sym (sum_stretch (width d) (width d v) v (next - v) (λ w l k. ap (λ (i : ℕ). domain d (i - 1)) (same_layer w l (omega arith)))) ∙ ap (λ (n : ℕ). sum_to n (width d)) e

  -- from its first edge on, past its edges
  pub next_edges : (a count : ℕ) → a ≡ first_edge d v → count ≡ layer_edges d.domains (layer d v) (next - v) → a + count ≡ first_edge d next
  unfolding layer_edges
  next_edges a count p q = rw (p, q, le-leb (next - v) 4096 (omega (arith, end.none_above.to_last, s.nodes_fit)), le-leb 1 (layer d v) (layer_within d s v hv).0) stretch
