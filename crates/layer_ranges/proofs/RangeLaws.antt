-- The range that `range_of` gives is where edges of a layer may lead: the next layer's nodes stand in one stretch. Assumes nothing.
use mathlib.Core.Path.{◌≡◌, refl, ◌∙◌, ap}
use mathlib.Core.Bool.{Bool, true, false, not, cond, ◌&&◌, ◌||◌}
use mathlib.Core.List.{List}
use mathlib.Core.Logic.{⊎_elim}
use Prim.Native.Nat.{ℕ, zero, suc, ◌+◌, ◌≤◌, ◌<◌}
use native.Mathlib.Omega.{arith}
use lib.ListN.{length}
use lib.Dec.{ltb, leb, eqb}
use borrow.Author.Tests.{lt-ltb, le-ltb, le-leb, lt-leb, eq-eqb, ltb-true, eqb-true}
use Rattle.lists.proofs.UptoLaws.{below_or_not}
use Rattle.stray.specs.declared.Range.{Range}
use Rattle.diagram.specs.Lent.{Lent, options, nodes, layer}
use Rattle.diagram.specs.Sound.{Shaped}
use Rattle.diagram.specs.Rules.{permits}
use Rattle.diagram.proofs.ShapedLaws.{layer_within, layers_rise}
use Rattle.layer_ends.specs.Layers.{layer_end, LayerEnd}
use Rattle.layer_ends.proofs.LayerLaws.{ends_layer}
use Rattle.layer_ranges.specs.Ranges.{cut, range_by, RangeOf}

-- how it is computed
pub range_read : (ds ls : List ℕ) (i next n after e l h : ℕ) → n ≡ cut (i + 1) → after ≡ layer_end ls next n → e ≡ cond (eqb i (length ds)) 2 1 → l ≡ cut (next + 2) → h ≡ cut (after + 2) → record { ends = e; low = l; high = h } ≡ range_by ds ls i next
unfolding range_by
range_read ds ls i next n after e l h pn pa pe pl ph = rw (pe, pl, ph, pa, pn)

module _ (d : Lent) (s : Shaped d) (v next : ℕ) (hv : v < nodes d) (end : LayerEnd d.layers v (layer d v) next) where
  -- the next layer's nodes are those from `next` to before `after`
  module _ (after : ℕ) (next-end : LayerEnd d.layers next (layer d v + 1) after) where
    -- a node that the next layer does not have, and one that it has
    lacking : (w : ℕ) → (w < nodes d → layer d w ≡ layer d v + 1 → ⊥) → permits d (layer d v) (suc (suc w)) ≡ false
    unfolding permits
    lacking w f = go (ltb (layer d v) (options d)) (ltb w (nodes d)) (eqb (layer d w) (layer d v + 1)) refl refl
      where
        go : (a b c : Bool) → ltb w (nodes d) ≡ b → eqb (layer d w) (layer d v + 1) ≡ c → (a && (b && c)) ≡ false
        go false b c p q = refl
        go true false c p q = refl
        go true true false p q = refl
        go true true true p q = absurd (f (ltb-true w (nodes d) p) (eqb-true (layer d w) (layer d v + 1) q))

    having : (w : ℕ) → next ≤ w → w < after → permits d (layer d v) (suc (suc w)) ≡ true
    unfolding permits
    having w l k =
        let h : w < nodes d = omega (arith, next-end.none_above.to_last) in
        let a : layer d v < layer d next = end.above (omega arith) in
        let b : layer d next ≤ layer d w = layers_rise d s next w l h in
        let c : layer d w ≤ layer d v + 1 = next-end.none_above.until w l k in
        rw (lt-ltb (layer d v) (options d) (omega (arith, layer_within d s w h)), lt-ltb w (nodes d) h, eq-eqb (layer d w) (layer d v + 1) (omega arith))

    too_low : (w : ℕ) → w < next → w < nodes d → layer d w ≡ layer d v + 1 → ⊥
    too_low w k h q =
        ⊎_elim (λ (l : w < v). omega (arith, layers_rise d s w v (omega arith) hv)) (λ (l : v ≤ w). omega (arith, end.none_above.until w l k)) (below_or_not w v)

    too_high : (w : ℕ) → after ≤ w → w < nodes d → layer d w ≡ layer d v + 1 → ⊥
    too_high w l h q = omega (arith, next-end.above (omega arith), layers_rise d s after w l h)

    either_way : (a : Bool) → (a || true) ≡ true
    either_way true = refl
    either_way false = refl

    node : (w : ℕ) → (ltb (suc (suc w)) (next + 2) || leb (after + 2) (suc (suc w))) ≡ not (permits d (layer d v) (suc (suc w)))
    node w = ⊎_elim low (λ (l : next ≤ w). ⊎_elim (mid l) high (below_or_not w after)) (below_or_not w next)
      where
        low : w < next → (ltb (suc (suc w)) (next + 2) || leb (after + 2) (suc (suc w))) ≡ not (permits d (layer d v) (suc (suc w)))
        low l = rw (lt-ltb (suc (suc w)) (next + 2) (omega arith), lacking w (too_low w l))

        mid : next ≤ w → w < after → (ltb (suc (suc w)) (next + 2) || leb (after + 2) (suc (suc w))) ≡ not (permits d (layer d v) (suc (suc w)))
        mid l k = rw (le-ltb (suc (suc w)) (next + 2) (omega arith), lt-leb (after + 2) (suc (suc w)) (omega arith), having w l k)

        high : after ≤ w → (ltb (suc (suc w)) (next + 2) || leb (after + 2) (suc (suc w))) ≡ not (permits d (layer d v) (suc (suc w)))
        high l = rw (le-leb (after + 2) (suc (suc w)) (omega arith), lacking w (too_high w l)) (either_way (ltb (suc (suc w)) (next + 2)))

    range : (r : Range) → r.ends ≡ cond (eqb (layer d v) (options d)) 2 1 → r.low ≡ next + 2 → r.high ≡ after + 2 → RangeOf d (layer d v) r
    unfolding permits
    range r e f g zero = rw e (none (eqb (layer d v) (options d)))
      where
        none : (b : Bool) → (not (ltb 0 (cond b 2 1)) && (ltb 0 r.low || leb r.high 0)) ≡ false
        none true = refl
        none false = refl
    range r e f g (suc zero) = rw (e, f, lt-ltb 1 (next + 2) (omega arith)) (one (eqb (layer d v) (options d)))
      where
        one : (b : Bool) → (not (ltb 1 (cond b 2 1)) && true) ≡ not b
        one true = refl
        one false = refl
    range r e f g (suc (suc w)) = rw (e, f, g, le-ltb (suc (suc w)) (cond (eqb (layer d v) (options d)) 2 1) (most (eqb (layer d v) (options d)))) (node w)
      where
        most : (b : Bool) → cond b 2 1 ≤ suc (suc w)
        most true = omega arith
        most false = omega arith

  pub layer_range : (r : Range) → r ≡ range_by d.domains d.layers (layer d v) next → RangeOf d (layer d v) r
  unfolding range_by
  layer_range r e =
      let o : layer d v ≤ 64 = omega (arith, layer_within d s v hv, s.options_fit) in
      let p : cut (layer d v + 1) ≡ layer d v + 1 = omega arith in
      let after : ℕ = layer_end d.layers next (layer d v + 1) in
      let n : next ≤ nodes d = end.none_above.to_last in
      let w = ends_layer d s next (layer d v + 1) after n refl in
      let m : after ≤ nodes d = w.none_above.to_last in
      let l : cut (next + 2) ≡ next + 2 = omega (arith, s.nodes_fit) in
      let h : cut (after + 2) ≡ after + 2 = omega (arith, s.nodes_fit) in
      range after w r (ap (λ (r : Range). r.ends) e) (ap (λ (r : Range). r.low) e ∙ l) (ap (λ (r : Range). r.high) e ∙ rw p h)
