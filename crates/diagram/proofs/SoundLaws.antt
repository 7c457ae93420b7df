-- The rules compute what the table says, and a diagram passes them exactly when it is sound. Assumes nothing.
use Rattle.std.specs.Prelude.{Ok}
use mathlib.Core.Path.{◌≡◌, refl, sym, ◌∙◌}
use mathlib.Core.Bool.{Bool, true, false, not, ◌&&◌, true≢false}
use mathlib.Core.List.{[]}
use Prim.Native.Nat.{ℕ, zero, suc, ◌+◌, ◌<◌}
use native.Mathlib.Omega.{arith}
use lib.ListN.{length}
use lib.Dec.{ltb, eqb}
use borrow.Author.Tests.{ltb-true, lt-ltb, eqb-true, eq-eqb, not-true, not-false}
use Rattle.lists.specs.First.{found_if, first, FirstFailing}
use Rattle.lists.proofs.UptoLaws.{sum_split, sum_within}
use Rattle.lists.proofs.FirstLaws.{Tests, tests_each, tests_equal}
use Rattle.refusal.specs.Rules.{chain}
use Rattle.refusal.proofs.RulesLaws.{passed, not_due}
use Rattle.refusal.proofs.TableLaws.{Faithful}
use Rattle.diagram.specs.Lent.{Lent, options, nodes, layer, width, first_edge, edges, target}
use Rattle.diagram.specs.Sound.{Permitted, to_false, to_true, to_node, TargetFits, Counted, Sound, check_table}
use Rattle.diagram.specs.Rules.{permits, bad_target, option_rules, node_rules, shape_rules, target_rules, check_rules}
use Rattle.diagram.proofs.ShapedLaws.{tests_1, tests_2, tests_3, tests_4, shaped, edge_sums}
use Rattle.diagram.proofs.RangeLaws.{owner_is}

module _ (d : Lent) where
  -- ---- where an edge may lead

  permits_true : (i t : ℕ) → permits d i t ≡ true → Permitted d i t
  unfolding permits
  permits_true i zero e = to_false
  permits_true i (suc zero) e = to_true (eqb-true i (options d) e)
  permits_true i (suc (suc w)) e = go (ltb i (options d)) (ltb w (nodes d)) (eqb (layer d w) (i + 1)) refl refl refl e
    where
      go : (a b c : Bool) → ltb i (options d) ≡ a → ltb w (nodes d) ≡ b → eqb (layer d w) (i + 1) ≡ c → (a && (b && c)) ≡ true → Permitted d i (suc (suc w))
      go true true true p q r e = to_node (ltb-true i (options d) p) (ltb-true w (nodes d) q) (eqb-true (layer d w) (i + 1) r)
      go true true false p q r e = absurd (true≢false (sym e))
      go true false c p q r e = absurd (true≢false (sym e))
      go false b c p q r e = absurd (true≢false (sym e))

  permitted_true : (i t : ℕ) → Permitted d i t → permits d i t ≡ true
  unfolding permits
  permitted_true i t to_false = refl
  permitted_true i t (to_true e) = eq-eqb i (options d) e
  permitted_true i t (to_node {w = w} h k e) = rw (lt-ltb i (options d) h, lt-ltb w (nodes d) k, eq-eqb (layer d w) (i + 1) e)

  -- the target of edge j of node v
  owned : (v j p : ℕ) → v < nodes d → j < width d v → p ≡ first_edge d v + j → bad_target d p ≡ not (permits d (layer d v) (target d v j))
  unfolding bad_target
  owned v j p hv hj e = rw (owner_is d v p hv (omega arith) (omega (arith, (edge_sums d).more v)), e)

  target_good : (p : ℕ) → p < edges d → bad_target d p ≡ false → TargetFits d p
  target_good p h e v j hv hj q = permits_true (layer d v) (target d v j) (not-false (permits d (layer d v) (target d v j)) (sym (owned v j p hv hj q) ∙ e))

  target_not_good : (p : ℕ) → p < edges d → bad_target d p ≡ true → TargetFits d p → ⊥
  unfolding first_edge
  target_not_good p h e f =
      let w = sum_split (width d) (nodes d) p h in
      let t = permitted_true (layer d w.0) (target d w.0 w.1) (f w.0 w.1 w.2 w.3 w.4) in
      true≢false (sym t ∙ not-true (permits d (layer d w.0) (target d w.0 w.1)) (sym (owned w.0 w.1 p w.2 w.3 w.4) ∙ e))

  -- numbers 5 and 6: what each test is for
  tests_5 : Tests (found_if (not (eqb (length d.targets) (edges d))) 0) (λ p. (p ≡ 0) × (Counted d → ⊥)) (Counted d)
  tests_5 = tests_equal (length d.targets) (edges d)

  tests_6 : Tests (first (bad_target d) (edges d)) (FirstFailing (edges d) (TargetFits d)) ((p : ℕ) → p < edges d → TargetFits d p)
  tests_6 = tests_each (bad_target d) (TargetFits d) (edges d) target_good target_not_good

  -- ---- the table

  pub check_faithful : Faithful (check_rules d) (check_table d)
  unfolding check_rules option_rules node_rules target_rules
  check_faithful = (refl, (tests_1 d).at, λ _. (refl, (tests_2 d).at, λ _. (refl, (tests_3 d).at, λ _. (refl, (tests_4 d).at, λ _. (refl, tests_5.at, λ _. (refl, tests_6.at, λ _. tt))))))

  -- ---- a sound diagram

  pub passed_sound : chain (check_rules d) ≡ Ok tt → Sound d
  unfolding check_rules target_rules first_edge
  passed_sound e =
      let w = passed (shape_rules d) (target_rules d) e in
      let o = passed (option_rules d) (node_rules d) w.0 in
      let t₁ = not_due 5 (found_if (not (eqb (length d.targets) (edges d))) 0) _ w.1 in
      let t₂ = not_due 6 (first (bad_target d) (edges d)) [] t₁.1 in
      record {
        shaped = shaped d o.0 o.1;
        counted = tests_5.none.0 t₁.0;
        permitted = λ v j hv hj. tests_6.none.0 t₂.0 (first_edge d v + j) (sum_within (width d) v (nodes d) j hv hj) v j hv hj refl;
      }

  pub sound_passed : Sound d → chain (check_rules d) ≡ Ok tt
  unfolding check_rules option_rules node_rules target_rules chain
  sound_passed s =
      rw (
        (tests_1 d).none.1 s.shaped.options_fit,
        (tests_2 d).none.1 s.shaped.domains_fit,
        (tests_3 d).none.1 s.shaped.nodes_fit,
        (tests_4 d).none.1 s.shaped.layers_fit,
        tests_5.none.1 s.counted,
        tests_6.none.1 (λ p h v j hv hj q. s.permitted v j hv hj),
      )
