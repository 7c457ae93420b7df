-- An allowed build has a setting: each reference and each edge is what it stands for. With that the list has all that is to
-- be shown of an encoding. Assumes nothing.
use mathlib.Core.Path.{◌≡◌, refl, ◌∙◌, ap}
use mathlib.Core.Bool.{Bool, true, false, not, ◌&&◌}
use Prim.Native.Nat.{ℕ, suc, ◌<◌}
use native.Mathlib.Omega.{arith}
use lib.Dec.{eqb}
use borrow.Author.Tests.{eqb-true, eq-eqb}
use Rattle.lists.specs.Upto.{up_to}
use Rattle.lists.specs.Every.{Every, Each}
use Rattle.lists.proofs.EveryLaws.{every_more, every_both, every_up_to, each_every}
use Rattle.cnf.specs.Clause.{negated, Setting, holds, Held, Satisfies}
use Rattle.cnf.proofs.Propagation.{held_first, held_second, held_later}
use Rattle.diagram.specs.Lent.{Lent, options, nodes, layer, asked, width, target, end, Allows, Build}
use Rattle.diagram.specs.Numbers.{values}
use Rattle.diagram.proofs.AllowsLaws.{Ranked, asked_option, later_most, walk_true, walk_false}
use Rattle.clauses.specs.Variables.{node_variable, edge_variable, target_variable, asked_variable}
use Rattle.clauses.specs.Clauses.{Edition, units, t1, t5, edge_clauses, node_clauses, option_clauses, clauses}
use Rattle.clauses.specs.Editions.{ExactlyOne}
use Rattle.clauses.proofs.OneOf.{one_of_held}
use Rattle.clauses.proofs.Common.{clauses_common}
use Rattle.clauses.proofs.Meant.{Stands, Meant}
use Rattle.clauses.proofs.Decided.{arrives, taken, arrives_step, clauses_t5, reference_decided, edge_decided}

module _ (d : Lent) (ok : Ranked d) (x : ℕ → ℕ) (b : Build d x) (σ : Setting) (stands : Stands d x (arrives d x) (taken d x) σ) where
  units_held : Allows d x → Each (Held σ) (units (values d))
  units_held a = (
    held_first σ _ _ (stands.reference_is 1 (omega arith) ∙ ap (λ (r : ℕ). eqb r 1) (walk_true d x (options d))),
    (
      held_first σ _ _ (ap not (stands.reference_is 0 (omega arith) ∙ ap (λ (r : ℕ). eqb r 1) (walk_false d x (options d)))),
      (held_first σ _ _ (stands.reference_is 2 (omega (arith, ok.some_nodes)) ∙ eq-eqb (end d x 2) 1 a), tt),
    ),
  )

  module _ (v : ℕ) (hv : v < nodes d) where
    node_is : σ (node_variable d v) ≡ arrives d x (target d v (x (asked d v)))
    node_is = stands.reference_is (suc (suc v)) (omega arith) ∙ arrives_step d x ok b v hv

    t1_held : (g : Bool) → arrives d x (target d v (x (asked d v))) ≡ g → Held σ (t1 (node_variable d v) (λ j. edge_variable d v j) (width d v))
    t1_held true p = held_later σ _ _ (one_of_held (λ j. edge_variable d v j) (width d v) σ (x (asked d v)) hx (stands.edge_is v (x (asked d v)) hv hx ∙ rw (eq-eqb (x (asked d v)) (x (asked d v)) refl, p)))
      where
        hx : x (asked d v) < width d v
        hx = b (asked d v) (asked_option d ok v hv)
    t1_held false p = held_first σ _ _ (ap not (node_is ∙ p))

    edge_held : (j : ℕ) → j < width d v → Each (Held σ) (edge_clauses d v j)
    edge_held j hj = go (eqb j (x (asked d v))) refl (arrives d x (target d v j)) refl
      where
        value : σ (asked_variable d v j) ≡ eqb j (x (asked d v))
        value = stands.value_is (asked d v) j (asked_option d ok v hv) hj

        leads_to : σ (target_variable d v j) ≡ arrives d x (target d v j)
        leads_to = stands.reference_is (target d v j) (later_most d (layer d v) (target d v j) (ok.later v j hv hj))

        edge : (q : Bool) → eqb j (x (asked d v)) ≡ q → (g : Bool) → arrives d x (target d v j) ≡ g → σ (edge_variable d v j) ≡ q && g
        edge q p g r = stands.edge_is v j hv hj ∙ rw (p, r)

        off : holds σ (negated (edge_variable d v j)) ≡ true → Held σ (t5 (edge_variable d v j) (target_variable d v j) (asked_variable d v j)) → Each (Held σ) (edge_clauses d v j)
        off n h = (held_first σ _ _ n, (held_first σ _ _ n, (held_first σ _ _ n, (h, tt))))

        go : (q : Bool) → eqb j (x (asked d v)) ≡ q → (g : Bool) → arrives d x (target d v j) ≡ g → Each (Held σ) (edge_clauses d v j)
        go false p g r = off (ap not (edge false p g r)) (held_second σ _ _ _ (ap not (value ∙ p)))
        go true p false r = off (ap not (edge true p false r)) (held_first σ _ _ (ap not (leads_to ∙ r)))
        go true p true r = (
          held_second σ _ _ _ (node_is ∙ rw (← eqb-true j (x (asked d v)) p) r),
          (
            held_second σ _ _ _ (leads_to ∙ r),
            (held_second σ _ _ _ (value ∙ p), (held_later σ _ _ (held_second σ _ _ _ (edge true p true r)), tt)),
          ),
        )

    node_held : Every (Held σ) (node_clauses d v)
    node_held = every_more (Held σ) (t1_held (arrives d x (target d v (x (asked d v)))) refl) (every_up_to (Held σ) (width d v) (edge_clauses d v) (λ j hj. each_every (Held σ) (edge_clauses d v j) (edge_held j hj)))

  -- with the options' clauses it satisfies the whole list, where the build is allowed
  stands_satisfies : (e : Edition) → ((i : ℕ) → i < options d → Satisfies σ (option_clauses e d i)) → Allows d x → Satisfies σ (clauses e d)
  unfolding clauses
  stands_satisfies e f a =
      every_both (Held σ) (up_to (options d) (option_clauses e d)) (every_up_to (Held σ) (options d) (option_clauses e d) f)
      (every_both (Held σ) (units (values d)) (each_every (Held σ) (units (values d)) (units_held a)) (every_up_to (Held σ) (nodes d) (node_clauses d) node_held))

-- the list means the diagram: a reference is true where the build's walk from it ends at T, an edge where it is that of the
-- build's value and the walk goes on to T
pub clauses_meant : {e : Edition} → ExactlyOne e → {d : Lent} → Ranked d → (x : ℕ → ℕ) → Build d x → Allows d x → Meant e d (clauses e d) x (arrives d x) (taken d x)
clauses_meant {e} one {d} ok x b a =
    record {
      satisfied = λ σ stands f. stands_satisfies d ok x b σ stands e f a;
      reference_decided = reference_decided one ok (clauses_common e d) (clauses_t5 e d) x b;
      edge_decided = edge_decided one ok (clauses_common e d) (clauses_t5 e d) x b;
    }
