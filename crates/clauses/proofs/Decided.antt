-- From a whole build's values unit propagation decides every reference and every edge, either way: so a build has no two
-- settings. This is what T2 and T5 are for. Assumes nothing.
use mathlib.Core.Path.{◌≡◌, refl, ap, subst}
use mathlib.Core.Logic.{inl, inr, ⊎_elim}
use mathlib.Core.Bool.{Bool, true, false, ◌&&◌}
use mathlib.Core.List.{List, Memᴰ}
use Prim.Native.Nat.{ℕ, suc, ◌+◌, ◌<◌}
use lib.IntN.{ℤ}
use lib.Dec.{eqb}
use borrow.Author.Tests.{eqb-true, eqb-false, eq-eqb}
use Rattle.lists.proofs.UptoLaws.{decide}
use Rattle.cnf.specs.Clause.{Clause, plain, says, Reached}
use Rattle.cnf.proofs.Propagation.{unit_each}
use Rattle.diagram.specs.Lent.{Lent, options, nodes, layer, asked, width, target, end, Build}
use Rattle.diagram.proofs.AllowsLaws.{Later, Ranked, asked_option, every_reference, every_later, walk_true, walk_false, end_step}
use Rattle.clauses.specs.Variables.{reference_variable, node_variable, edge_variable, target_variable, asked_variable}
use Rattle.clauses.specs.Clauses.{Edition, t5, clauses}
use Rattle.clauses.specs.Editions.{ExactlyOne}
use Rattle.clauses.proofs.Common.{Common, Chooses, in_edge, true_reached, false_out, value_out, t1_step, t2_step, t3_step, t4_step}

-- ---- what a reference and an edge stand for

module _ (d : Lent) (x : ℕ → ℕ) where
  -- the build's walk from the reference ends at T
  abbrev pub arrives : ℕ → Bool
  arrives r = eqb (end d x r) 1

  -- the edge is that of the build's value, and the walk goes on to T
  abbrev pub taken : ℕ → ℕ → Bool
  taken v j = eqb j (x (asked d v)) && arrives (target d v j)

  pub arrives_step : Ranked d → Build d x → (v : ℕ) → v < nodes d → arrives (suc (suc v)) ≡ arrives (target d v (x (asked d v)))
  arrives_step ok b v h = ap (λ (r : ℕ). eqb r 1) (end_step d ok x b v h)

-- ---- T5 in a list of clauses

abbrev pub HasT5 : Lent → List Clause → Type 0
HasT5 d cs = (v j : ℕ) → v < nodes d → j < width d v → Memᴰ (t5 (edge_variable d v j) (target_variable d v j) (asked_variable d v j)) cs

pub clauses_t5 : (e : Edition) (d : Lent) → HasT5 d (clauses e d)
clauses_t5 e d v j h l = in_edge e d v j h l _ (Memᴰ.tail (Memᴰ.tail (Memᴰ.tail (Memᴰ.head refl))))

-- the target and the value reach the edge
t5_step : (d : Lent) (cs : List Clause) → HasT5 d cs → (Given : ℤ → Type 0) (v j : ℕ) → v < nodes d → j < width d v → Reached Given cs (plain (target_variable d v j)) → Reached Given cs (plain (asked_variable d v j)) → Reached Given cs (plain (edge_variable d v j))
t5_step d cs has Given v j hv hj r s = unit_each (t5 (edge_variable d v j) (target_variable d v j) (asked_variable d v j)) (has v j hv hj) (Memᴰ.tail (Memᴰ.tail (Memᴰ.head refl))) (inr r, (inr s, (inl refl, tt)))

-- ---- from the build's values

module _ {e : Edition} (one : ExactlyOne e) {d : Lent} (ok : Ranked d) {cs : List Clause} (has : Common e d cs) (has5 : HasT5 d cs) (x : ℕ → ℕ) (b : Build d x) (Given : ℤ → Type 0) (chosen : Chooses d x Given cs) where
  abbrev R : ℤ → Type 0
  R = Reached Given cs

  edge_from_lem : (v j : ℕ) → v < nodes d → j < width d v → R (says (arrives d x (target d v j)) (target_variable d v j)) → R (says (taken d x v j) (edge_variable d v j))
  edge_from_lem v j hv hj r = go (eqb j (x (asked d v))) refl (arrives d x (target d v j)) r
    where
      go : (q : Bool) → eqb j (x (asked d v)) ≡ q → (g : Bool) → R (says g (target_variable d v j)) → R (says (q && g) (edge_variable d v j))
      go false p g r = t4_step has v hv j hj (value_out has one x b chosen (asked d v) j (asked_option d ok v hv) hj (eqb-false j (x (asked d v)) p))
      go true p false r = t3_step has v hv j hj r
      go true p true r = t5_step d cs has5 Given v j hv hj r (rw (eqb-true j (x (asked d v)) p) (chosen (asked d v) (asked_option d ok v hv)))

  node_from_lem : (v : ℕ) → v < nodes d → ((j : ℕ) → j < width d v → R (says (taken d x v j) (edge_variable d v j))) → (g : Bool) → arrives d x (target d v (x (asked d v))) ≡ g → R (says g (node_variable d v))
  node_from_lem v hv edge true p = t2_step has v hv (x (asked d v)) hx (subst (λ (g : Bool). R (says g (edge_variable d v (x (asked d v))))) on (edge (x (asked d v)) hx))
    where
      hx : x (asked d v) < width d v
      hx = b (asked d v) (asked_option d ok v hv)

      on : taken d x v (x (asked d v)) ≡ true
      on = rw (eq-eqb (x (asked d v)) (x (asked d v)) refl, p)
  node_from_lem v hv edge false p = t1_step has v hv (λ j hj. subst (λ (g : Bool). R (says g (edge_variable d v j))) (off j) (edge j hj))
    where
      off : (j : ℕ) → taken d x v j ≡ false
      off j = ⊎_elim
          (λ (q : eqb j (x (asked d v)) ≡ true). rw (q, eqb-true j (x (asked d v)) q, p))
          (λ (q : eqb j (x (asked d v)) ≡ false). rw q)
          (decide (eqb j (x (asked d v))))

  later_decided : (i r : ℕ) → Later d i r → R (says (arrives d x r) (reference_variable d r))
  later_decided =
      every_reference d ok (λ r. R (says (arrives d x r) (reference_variable d r)))
      (rw (walk_false d x (options d)) (false_out has))
      (rw (walk_true d x (options d)) (true_reached has))
      (λ v hv f. rw (arrives_step d x ok b v hv) (node_from_lem v hv (λ j hj. edge_from_lem v j hv hj (f j hj)) (arrives d x (target d v (x (asked d v)))) refl))

  pub reference_decided : (r : ℕ) → r < nodes d + 2 → R (says (arrives d x r) (reference_variable d r))
  reference_decided r h = later_decided 0 r (every_later d ok r h)

  pub edge_decided : (v j : ℕ) → v < nodes d → j < width d v → R (says (taken d x v j) (edge_variable d v j))
  edge_decided v j hv hj = edge_from_lem v j hv hj (later_decided (layer d v) (target d v j) (ok.later v j hv hj))
