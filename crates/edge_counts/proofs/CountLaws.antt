-- The rules 1 to 5 read no more of the targets than their count, and where they pass, the diagram has its shape and its count.
-- Assumes nothing.
use Rattle.std.specs.Prelude.{Some, Ok}
use mathlib.Core.Path.{◌≡◌, refl, sym, ap, ◌∙◌}
use mathlib.Core.Bool.{Bool, true, false, not, cond}
use mathlib.Core.List.{List, [], ◌∷◌}
use lib.ListN.{length}
use Prim.Native.Nat.{ℕ, ◌+◌, ◌-◌, ◌≤◌, ◌<◌}
use native.Mathlib.Omega.{arith}
use lib.Dec.{eqb}
use borrow.Author.Tests.{not-false, eqb-true}
use Rattle.lists.specs.First.{found_if}
use Rattle.lists.proofs.FirstLaws.{if_none}
use Rattle.refusal.specs.Rules.{Rule, rule, and_then, chain}
use Rattle.refusal.proofs.RulesLaws.{chain-append, passed, not_due}
use Rattle.diagram.specs.Lent.{Lent, lent, nodes, layer, first_edge, edges}
use Rattle.diagram.specs.Sound.{Shaped, Counted}
use Rattle.diagram.specs.Rules.{bad_layer, option_rules, node_rules, shape_rules}
use Rattle.diagram.proofs.ShapedLaws.{shaped, same_edges, edges_most}
use Rattle.layer_ends.specs.Layers.{LayerEnd, layer_end, layer_edges}
use Rattle.layer_ends.proofs.LayerLaws.{ends_layer, moves_on, next_edges}
use Rattle.edge_counts.specs.Counts.{count_rule, count_rules}

-- the rules of the shape read no targets
pub same_shape_rules : (ds ls ts : List ℕ) → shape_rules (lent ds ls []) ≡ shape_rules (lent ds ls ts)
unfolding option_rules node_rules bad_layer
same_shape_rules ds ls ts = refl

pub shape_passed : (d : Lent) → chain (shape_rules d) ≡ Ok tt → Shaped d
shape_passed d p = let w = passed (option_rules d) (node_rules d) p in shaped d w.0 w.1

-- numbers 1 to 4 come first, and then the count of the targets
pub counts_in_parts : (ds ls ts : List ℕ) → chain (count_rules (lent ds ls ts)) ≡ and_then (chain (shape_rules (lent ds ls []))) (chain (count_rule (lent ds ls ts)))
unfolding count_rules
counts_in_parts ds ls ts = chain-append (shape_rules (lent ds ls ts)) _ ∙ ap (λ (rs : List Rule). and_then (chain rs) (chain (count_rule (lent ds ls ts)))) (sym (same_shape_rules ds ls ts))

-- the count of the targets, and how many edges there are
pub counted : (ds ls ts : List ℕ) → chain (count_rule (lent ds ls ts)) ≡ cond (eqb (length ts) (edges (lent ds ls []))) (Ok tt) (chain (rule 5 (Some 0) ∷ []))
unfolding chain
counted ds ls ts = rw (same_edges ds ls [] ts (length ls)) (go (eqb (length ts) (edges (lent ds ls ts))))
  where
    go : (b : Bool) → chain (rule 5 (found_if (not b) 0) ∷ []) ≡ cond b (Ok tt) (chain (rule 5 (Some 0) ∷ []))
    go true = refl
    go false = refl

pub counts_passed : (d : Lent) → chain (count_rules d) ≡ Ok tt → Shaped d × Counted d
unfolding count_rules
counts_passed d p =
    let w = passed (shape_rules d) (count_rule d) p in
    (shape_passed d w.0, eqb-true (length d.targets) (edges d) (not-false _ (if_none _ 0 (not_due 5 (found_if (not (eqb (length d.targets) (edges d))) 0) [] w.1).0)))

-- a turn of the loop over layers: `next` is where the layer of node w ends, and e counts the edges of the nodes before w
module _ (d : Lent) (s : Shaped d) {w e next count : ℕ} (hw : w < nodes d) (is_e : e ≡ first_edge d w) (is-next : next ≡ layer_end d.layers w (layer d w)) (is-count : count ≡ layer_edges d.domains (layer d w) (next - w)) where
  pub turn_end : LayerEnd d.layers w (layer d w) next
  turn_end = ends_layer d s w (layer d w) next (omega arith) is-next

  pub turn_edges : e + count ≡ first_edge d next
  turn_edges = next_edges d s w next hw turn_end e count is_e is-count

  pub turn_few : e + count ≤ 131072
  turn_few = omega (arith, turn_edges, edges_most d s next turn_end.none_above.to_last)

  pub turn_on : w < next
  turn_on = moves_on d s w next hw turn_end
