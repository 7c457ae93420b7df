-- Laws of a build's walk. What they need of a diagram is that its edges lead to ends or to later layers; so they hold
-- wherever edges may skip options, too. Assumes nothing.
use mathlib.Core.Path.{◌≡◌, refl, sym, ◌∙◌, ap}
use mathlib.Core.Logic.{⊎_elim, ◌↔◌}
use Prim.Native.Nat.{ℕ, zero, suc, ◌+◌, ◌-◌, ◌≤◌, ◌<◌}
use native.Mathlib.Omega.{arith}
use Rattle.lists.proofs.UptoLaws.{below_or_not}
use Rattle.diagram.specs.Lent.{Lent, options, nodes, layer, asked, width, target, step, walk, end, Allows, Build, AllowsFrom, at_true, along, RootAllows}
use Rattle.diagram.specs.Sound.{Within, Shaped, Permitted, to_false, to_true, to_node, Sound}
use Rattle.diagram.proofs.ShapedLaws.{layer_within, layers_rise}

module _ (d : Lent) where
  -- a reference that an edge of layer i may have: an end, or a node of a later layer
  pub data Later (i : ℕ) : ℕ → Type 0 where
    at_false_end : Later i 0
    at_true_end : Later i 1
    at_node : {w : ℕ} → w < nodes d → i < layer d w → Later i (suc (suc w))

  pub record Ranked : Type 0 where
    pub some_nodes : 1 ≤ nodes d
    pub layers_fit : (v : ℕ) → v < nodes d → Within 1 (options d) (layer d v)
    pub later : (v j : ℕ) → v < nodes d → j < width d v → Later (layer d v) (target d v j)

  -- such a reference that is no end is a node's
  pub later_is : (i r : ℕ) → Later i r → 2 ≤ r → (r - 2 < nodes d) × (i < layer d (r - 2)) × (suc (suc (r - 2)) ≡ r)
  later_is i r at_false_end h = absurd (omega arith)
  later_is i r at_true_end h = absurd (omega arith)
  later_is i r (at_node {w = w} k l) h = let e : suc (suc w) - 2 ≡ w = omega arith in rw e (k, l, refl)

  -- and it is a reference that there is
  pub later_most : (i r : ℕ) → Later i r → r < nodes d + 2
  later_most i r at_false_end = omega arith
  later_most i r at_true_end = omega arith
  later_most i r (at_node h l) = omega arith

  permitted_later : (i r : ℕ) → Permitted d i r → Later i r
  permitted_later i r to_false = at_false_end
  permitted_later i r (to_true e) = at_true_end
  permitted_later i r (to_node l h e) = at_node h (omega arith)

  pub sound_ranked : Sound d → Ranked
  sound_ranked s =
      record {
        some_nodes = s.shaped.nodes_fit.0;
        layers_fit = layer_within d s.shaped;
        later = λ v j h k. permitted_later (layer d v) (target d v j) (s.permitted v j h k);
      }

  -- a node of a later layer stands later in the list
  pub later_node : Shaped d → (v w : ℕ) → v < nodes d → layer d v < layer d w → v < w
  later_node s v w h l = ⊎_elim (λ (k : v < w). k) (λ (k : w ≤ v). absurd (omega (arith, layers_rise d s w v k h))) (below_or_not v w)

  -- ---- the walk from an end

  pub walk_true : (x : ℕ → ℕ) (k : ℕ) → walk d x k 1 ≡ 1
  unfolding walk step
  walk_true x zero = refl
  walk_true x (suc k) = walk_true x k

  pub walk_false : (x : ℕ → ℕ) (k : ℕ) → walk d x k 0 ≡ 0
  unfolding walk step
  walk_false x zero = refl
  walk_false x (suc k) = walk_false x k

  pub end_of_end : (x : ℕ → ℕ) (r : ℕ) → r < 2 → end d x r ≡ r
  end_of_end x zero h = walk_false x (options d)
  end_of_end x (suc zero) h = walk_true x (options d)
  end_of_end x (suc (suc v)) h = absurd (omega arith)

  module _ (ok : Ranked) where
    pub asked_option : (v : ℕ) → v < nodes d → asked d v < options d
    asked_option v h = omega (arith, ok.layers_fit v h)

    -- what holds of the ends, and of a node where it holds of its edges' targets, holds of every reference
    module _ (P : ℕ → Type 0) (p0 : P 0) (p1 : P 1) (pn : (v : ℕ) → v < nodes d → ((j : ℕ) → j < width d v → P (target d v j)) → P (suc (suc v))) where
      from_below : (k i r : ℕ) → options d ≤ i + k → Later i r → P r
      from_below zero i r b at_false_end = p0
      from_below zero i r b at_true_end = p1
      from_below zero i r b (at_node {w = w} h l) = absurd (let q : layer d w ≤ options d = (ok.layers_fit w h).1 in omega arith)
      from_below (suc k) i r b at_false_end = p0
      from_below (suc k) i r b at_true_end = p1
      from_below (suc k) i r b (at_node {w = w} h l) = pn w h (λ j hj. from_below k (layer d w) (target d w j) (omega arith) (ok.later w j h hj))

      pub every_reference : (i r : ℕ) → Later i r → P r
      every_reference i r l = from_below (options d) i r (omega arith) l

    -- every reference that there is, and the root
    pub every_later : (r : ℕ) → r < nodes d + 2 → Later 0 r
    every_later zero h = at_false_end
    every_later (suc zero) h = at_true_end
    every_later (suc (suc w)) h = at_node {w = w} (omega arith) (ok.layers_fit w (omega arith)).0

    pub root_later : Later 0 2
    root_later = at_node ok.some_nodes (ok.layers_fit 0 ok.some_nodes).0

    module _ (x : ℕ → ℕ) (b : Build d x) where
      pub next_later : (v : ℕ) → v < nodes d → Later (layer d v) (target d v (x (asked d v)))
      next_later v h = ok.later v (x (asked d v)) h (b (asked d v) (asked_option v h))

      walk_stays : (k i r : ℕ) → options d ≤ i + k → Later i r → walk d x (suc k) r ≡ walk d x k r
      unfolding walk step
      walk_stays zero i r o at_false_end = refl
      walk_stays zero i r o at_true_end = refl
      walk_stays zero i r o (at_node {w = w} h l) = absurd (let q : layer d w ≤ options d = (ok.layers_fit w h).1 in omega arith)
      walk_stays (suc k) i r o at_false_end = refl
      walk_stays (suc k) i r o at_true_end = refl
      walk_stays (suc k) i r o (at_node {w = w} h l) = walk_stays k (layer d w) (target d w (x (asked d w))) (omega arith) (next_later w h)

      -- a node's walk ends where that of its value's edge does
      pub end_step : (v : ℕ) → v < nodes d → end d x (suc (suc v)) ≡ end d x (target d v (x (asked d v)))
      unfolding walk step
      end_step v h = sym (walk_stays (options d) 0 (suc (suc v)) (omega arith) (at_node h (ok.layers_fit v h).0))

      -- the walk from a reference of a layer above i reads the options from i on
      module _ (y : ℕ → ℕ) where
        walk_agrees : (k i r : ℕ) → Later i r → ((o : ℕ) → i ≤ o → o < options d → x o ≡ y o) → walk d x k r ≡ walk d y k r
        unfolding walk step
        walk_agrees zero i r l e = refl
        walk_agrees (suc k) i r at_false_end e = walk_agrees k i 0 at_false_end e
        walk_agrees (suc k) i r at_true_end e = walk_agrees k i 1 at_true_end e
        walk_agrees (suc k) i r (at_node {w = w} h l) e =
            walk_agrees k (layer d w) (target d w (x (asked d w))) (next_later w h) (λ o p q. e o (omega arith) q)
            ∙ ap (λ (j : ℕ). walk d y k (target d w j)) (e (asked d w) (omega arith) (asked_option w h))

        pub end_agrees : (i r : ℕ) → Later i r → ((o : ℕ) → i ≤ o → o < options d → x o ≡ y o) → end d x r ≡ end d y r
        end_agrees i r l e = walk_agrees (options d) i r l e

      -- ---- the walk ends at T exactly when the reference allows the build

      allows_from : (i r : ℕ) → Later i r → end d x r ≡ 1 → AllowsFrom d x r
      allows_from = every_reference (λ r. end d x r ≡ 1 → AllowsFrom d x r) (λ e. absurd (omega (arith, walk_false x (options d)))) (λ e. at_true)
          (λ v h f e. let j = b (asked d v) (asked_option v h) in along h j (f (x (asked d v)) j (sym (end_step v h) ∙ e)))

      from_allows : {r : ℕ} → AllowsFrom d x r → end d x r ≡ 1
      from_allows at_true = walk_true x (options d)
      from_allows (along {v = v} h j a) = end_step v h ∙ from_allows a

      pub allows_exactly : Allows d x ↔ RootAllows d x
      allows_exactly = (allows_from 0 2 root_later, from_allows)
