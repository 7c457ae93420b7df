-- A layer's part of the targets is searched by the range of references that its edges may lead to. Assumes nothing.
use Rattle.std.specs.Prelude.{Option, Some, None}
use mathlib.Core.Path.{◌≡◌, sym, ◌∙◌, ap}
use mathlib.Core.Bool.{Bool, true, false}
use mathlib.Core.List.{[], ◌∷◌, ◌++◌, append_assoc}
use mathlib.Core.Logic.{⊎_elim}
use Prim.Native.Nat.{ℕ, ◌+◌, ◌-◌, ◌≤◌, ◌<◌}
use native.Mathlib.Omega.{arith}
use lib.ListN.{length, get_or, take, drop}
use lib.Seq.{get_or-take, get_or-drop}
use lib.Dec.{leb}
use borrow.Author.Tests.{le-leb, leb-true, leb-false}
use Rattle.lists.specs.Upto.{last_to}
use Rattle.lists.specs.First.{first}
use Rattle.lists.proofs.UptoLaws.{below_or_not, last_is, up_to_last}
use Rattle.lists.proofs.FirstLaws.{first_agrees, on_none, on_found, found_least}
use Rattle.refusal.specs.Rules.{rule, and_then, chain}
use Rattle.refusal.proofs.RulesLaws.{chain-append}
use Rattle.stray.specs.Stray.{stray}
use Rattle.stray.specs.declared.Range.{Range}
use Rattle.diagram.specs.Lent.{Lent, nodes, layer, first_edge, edges, leads}
use Rattle.diagram.specs.Sound.{Shaped}
use Rattle.diagram.specs.Rules.{owner, bad_target, shape_rules, target_rules, check_rules}
use Rattle.diagram.proofs.ShapedLaws.{edge_sums, edges_most}
use Rattle.diagram.proofs.RangeLaws.{part_length}
use Rattle.layer_ends.specs.Layers.{LayerEnd, layer_end, layer_edges}
use Rattle.layer_ends.proofs.LayerLaws.{same_layer, ends_layer, next_edges}
use Rattle.edge_counts.specs.Counts.{count_rule, count_rules}
use Rattle.layer_ranges.specs.Ranges.{range_by, RangeOf}
use Rattle.layer_ranges.proofs.RangeLaws.{layer_range}

-- numbers 1 to 5 come first, and then the targets
pub check_in_parts : (d : Lent) → chain (check_rules d) ≡ and_then (chain (count_rules d)) (chain (rule 6 (first (bad_target d) (edges d)) ∷ []))
unfolding check_rules target_rules count_rules
check_in_parts d =
    let last = rule 6 (first (bad_target d) (edges d)) ∷ [] in
    ap chain (sym (append_assoc (shape_rules d) (count_rule d) last)) ∙ chain-append (shape_rules d ++ count_rule d) last

module _ (d : Lent) (s : Shaped d) (v next : ℕ) (hv : v < nodes d) (end : LayerEnd d.layers v (layer d v) next) where
  -- an edge of the stretch is of a node of the layer
  of_layer : (e : ℕ) → first_edge d v ≤ e → e < first_edge d next → layer d (owner d e) ≡ layer d v
  unfolding owner
  of_layer e low high = ⊎_elim of none (last_is begins (nodes d))
    where
      begins : ℕ → Bool
      begins w = leb (first_edge d w) e

      of : (last_to (nodes d) begins < nodes d) × (begins (last_to (nodes d) begins) ≡ true) → layer d (last_to (nodes d) begins) ≡ layer d v
      of w =
          let o : ℕ = last_to (nodes d) begins in
          let b : first_edge d o ≤ e = leb-true (first_edge d o) e w.1 in
          same_layer d s v next hv end o (up_to_last begins (nodes d) v hv (le-leb (first_edge d v) e low))
          (⊎_elim (λ (l : o < next). l) (λ (l : next ≤ o). absurd (let q : first_edge d next ≤ first_edge d o = (edge_sums d).rise next o l in omega arith)) (below_or_not o next))

      none : ((w : ℕ) → w < nodes d → begins w ≡ false) → layer d (last_to (nodes d) begins) ≡ layer d v
      none f = absurd (let q : e < first_edge d v = leb-false (first_edge d v) e (f v hv) in omega arith)

  -- the part of the targets that the layer's edges have, searched by the layer's range
  module _ (r : Range) (range : RangeOf d (layer d v) r) (a e : ℕ) (is-a : a ≡ first_edge d v) (is_e : e ≡ first_edge d next) where
    bad_in : (j : ℕ) → j < e - a → bad_target d (a + j) ≡ stray r (get_or (take (e - a) (drop a d.targets)) j 0)
    unfolding bad_target
    bad_in j h =
        rw (of_layer (a + j) (omega arith) (omega arith), get_or-take (e - a) (drop a d.targets) j 0 h, get_or-drop a d.targets j 0)
        (sym (range (leads d (a + j))))

    pub in_stretch : {f : Option ℕ} → e ≤ length d.targets
        → f ≡ first (λ j. stray r (get_or (take (e - a) (drop a d.targets)) j 0)) (length (take (e - a) (drop a d.targets))) → f ≡ first (λ j. bad_target d (a + j)) (e - a)
    in_stretch h q =
        q ∙ ap (first (λ j. stray r (get_or (take (e - a) (drop a d.targets)) j 0))) (part_length d.targets a e h)
        ∙ first_agrees _ _ (e - a) (λ j k. sym (bad_in j k))

-- a turn of the loop over layers: `next` is where the layer of node v ends, and a to a + count are its nodes' edges
pub record Turn (d : Lent) (v a next count : ℕ) : Type 0 where
  pub end : LayerEnd d.layers v (layer d v) next
  pub is_e : a + count ≡ first_edge d next
  pub room : a + count ≤ length d.targets
  pub small : a + count ≤ 131072

module _ (d : Lent) (s : Shaped d) (counted : length d.targets ≡ edges d) {v a next count : ℕ} (hv : v < nodes d) (is-a : a ≡ first_edge d v) (is-next : next ≡ layer_end d.layers v (layer d v)) (is-count : count ≡ layer_edges d.domains (layer d v) (next - v)) where
  pub turn : Turn d v a next count
  turn =
      let end = ends_layer d s v (layer d v) next (omega arith) is-next in
      let is_e = next_edges d s v next hv end a count is-a is-count in
      record {
        end = end;
        is_e = is_e;
        room = omega (arith, is_e, (edge_sums d).rise next (nodes d) end.none_above.to_last, counted);
        small = omega (arith, is_e, edges_most d s next end.none_above.to_last);
      }

  -- what the layer's search finds
  pub found_of : {r : Range} {f : Option ℕ} → r ≡ range_by d.domains d.layers (layer d v) next
      → f ≡ first (λ (j : ℕ). stray r (get_or (take (a + count - a) (drop a d.targets)) j 0)) (length (take (a + count - a) (drop a d.targets))) → f ≡ first (λ (j : ℕ). bad_target d (a + j)) (a + count - a)
  found_of {r} is-r is-f = in_stretch d s v next hv turn.end r (layer_range d s v next hv turn.end r is-r) a (a + count) is-a turn.is_e turn.room is-f

  -- it finds an edge of the layer, which is the first bad one; or none, and the loop goes on past the layer
  module _ {f : Option ℕ} (found : f ≡ first (λ (j : ℕ). bad_target d (a + j)) (a + count - a)) (none : first (bad_target d) a ≡ None) where
    pub found_within : {j : ℕ} → f ≡ Some j → a + j < a + count
    found_within e = omega (arith, found_least _ _ _ (sym found ∙ e))

    pub found_first : {j : ℕ} → f ≡ Some j → Some (a + j) ≡ first (bad_target d) (edges d)
    found_first e = sym (on_found _ a none _ _ _ (sym found ∙ e) (omega (arith, turn.room, counted)))

    pub found_none : f ≡ None → first (bad_target d) (a + count) ≡ None
    found_none e = let q : a + (a + count - a) ≡ a + count = omega arith in rw q at (on_none _ a none _ (sym found ∙ e))
