-- Where each value is open or ruled out, and no allowed build takes open values alone, unit propagation conflicts: by the
-- option clauses, the units, T1, T3 and T4 alone. Assumes nothing.
use mathlib.Core.Path.{◌≡◌, sym, ◌∙◌, ap}
use mathlib.Core.Logic.{◌⊎◌, inl, inr, ⊎_elim}
use mathlib.Core.Bool.{true, false}
use mathlib.Core.List.{List}
use Prim.Native.Nat.{ℕ, suc, ◌≤◌, ◌<◌}
use native.Mathlib.Omega.{arith}
use lib.IntN.{ℤ}
use lib.Dec.{eqb}
use borrow.Author.Tests.{eqb-true}
use Rattle.lists.proofs.UptoLaws.{decide, either}
use Rattle.lists.proofs.ChoiceLaws.{put, put_same, put_other, choose}
use Rattle.cnf.specs.Clause.{Clause, negated, Reached, Conflict}
use Rattle.diagram.specs.Lent.{Lent, options, nodes, domain, layer, asked, width, target, end, Allows}
use Rattle.diagram.specs.Numbers.{first_value}
use Rattle.diagram.proofs.AllowsLaws.{Later, Ranked, asked_option, every_reference, walk_true, end_step, end_agrees, root_later}
use Rattle.clauses.specs.Variables.{value_variable, reference_variable, edge_variable}
use Rattle.clauses.specs.Clauses.{Edition, first_helper}
use Rattle.clauses.specs.Editions.{ExactlyOne}
use Rattle.clauses.proofs.ExactlyOneLaws.{conflicts_in}
use Rattle.clauses.proofs.Common.{Common, false_out, root_conflict, t1_step, t3_step, t4_step}

-- the build takes open values alone
abbrev pub Takes : Lent → (ℕ → ℕ → Type 0) → (ℕ → ℕ) → Type 0
Takes d Open x = (i : ℕ) → i < options d → (x i < domain d i) × Open i (x i)

-- a build of open values whose walk from the reference ends at T
record Way (d : Lent) (Open : ℕ → ℕ → Type 0) (r : ℕ) : Type 0 where
  build : ℕ → ℕ
  takes : Takes d Open build
  arrives : end d build r ≡ 1

-- the edge of an open value leads on from its node
way_step : (d : Lent) → Ranked d → (Open : ℕ → ℕ → Type 0) (v j : ℕ) → v < nodes d → j < width d v → Open (asked d v) j → Way d Open (target d v j) → Way d Open (suc (suc v))
way_step d ok Open v j hv hj o w = record { build = x; takes = takes'; arrives = arrives' }
  where
    x : ℕ → ℕ
    x = put w.build (asked d v) j

    takes' : Takes d Open x
    takes' i h = ⊎_elim
        (λ (e : eqb i (asked d v) ≡ true). let q : i ≡ asked d v = eqb-true i (asked d v) e in rw e (rw q (hj, o)))
        (λ (e : eqb i (asked d v) ≡ false). rw e (w.takes i h))
        (decide (eqb i (asked d v)))

    same : (i : ℕ) → layer d v ≤ i → i < options d → w.build i ≡ x i
    same i p q = sym (put_other w.build (asked d v) j i (λ e. omega (arith, (ok.layers_fit v hv).0)))

    arrives' : end d x (suc (suc v)) ≡ 1
    arrives' =
        end_step d ok x (λ i h. (takes' i h).0) v hv
        ∙ ap (λ (k : ℕ). end d x (target d v k)) (put_same w.build (asked d v) j)
        ∙ sym (end_agrees d ok w.build (λ i h. (w.takes i h).0) x (layer d v) (target d v j) (ok.later v j hv hj) same)
        ∙ w.arrives

module _ (e : Edition) (one : ExactlyOne e) (d : Lent) (ok : Ranked d) (cs : List Clause) (has : Common e d cs) (Given : ℤ → Type 0) (Open : ℕ → ℕ → Type 0)
    (open_or_out : (i j : ℕ) → i < options d → j < domain d i → Open i j ⊎ Reached Given cs (negated (value_variable d i j))) where
  abbrev Out : ℕ → Type 0
  Out r = Reached Given cs (negated (reference_variable d r))

  -- some build of open values is allowed from the reference, or the reference is ruled out
  way_or_out : (x : ℕ → ℕ) → Takes d Open x → (i r : ℕ) → Later d i r → Way d Open r ⊎ Out r
  way_or_out x takes = every_reference d ok (λ r. Way d Open r ⊎ Out r)
      (inr (false_out has))
      (inl record { build = x; takes = takes; arrives = walk_true d x (options d) })
      node
    where
      edge : (v : ℕ) → v < nodes d → ((j : ℕ) → j < width d v → Way d Open (target d v j) ⊎ Out (target d v j)) → (j : ℕ) → j < width d v → Way d Open (suc (suc v)) ⊎ Reached Given cs (negated (edge_variable d v j))
      edge v hv f j hj = ⊎_elim
          (λ (o : Open (asked d v) j). ⊎_elim (λ (w : Way d Open (target d v j)). inl (way_step d ok Open v j hv hj o w)) (λ r. inr (t3_step has v hv j hj r)) (f j hj))
          (λ r. inr (t4_step has v hv j hj r))
          (open_or_out (asked d v) j (asked_option d ok v hv) hj)

      node : (v : ℕ) → v < nodes d → ((j : ℕ) → j < width d v → Way d Open (target d v j) ⊎ Out (target d v j)) → Way d Open (suc (suc v)) ⊎ Out (suc (suc v))
      node v hv f = ⊎_elim (λ w. inl w) (λ g. inr (t1_step has v hv g)) (either (λ j. Reached Given cs (negated (edge_variable d v j))) (width d v) (edge v hv f))

  abbrev OneOpen : ℕ → Type 0
  OneOpen i = (j : ℕ) × ((j < domain d i) × Open i j)

  -- an option has an open value, or its own clauses conflict
  option : (i : ℕ) → i < options d → Conflict Given cs ⊎ OneOpen i
  option i h = ⊎_elim (λ (t : OneOpen i). inr t) (λ f. inl (conflicts_in one (first_value d i) (first_helper e d i) (domain d i) (has.has_option i h) f))
      (either (λ j. Reached Given cs (negated (value_variable d i j))) (domain d i) (λ j hj. ⊎_elim (λ (o : Open i j). inl (j, (hj, o))) (λ r. inr r) (open_or_out i j h hj)))

  pub open_conflict : ((x : ℕ → ℕ) → Takes d Open x → Allows d x → ⊥) → Conflict Given cs
  open_conflict none = ⊎_elim (λ k. k) walked (either OneOpen (options d) option)
    where
      from : (x : ℕ → ℕ) → Takes d Open x → Conflict Given cs
      from x takes = ⊎_elim (λ (w : Way d Open 2). absurd (none w.build w.takes w.arrives)) (λ r. root_conflict has r) (way_or_out x takes 0 2 (root_later d ok))

      walked : ((i : ℕ) → i < options d → OneOpen i) → Conflict Given cs
      walked f = let t = choose (λ i j. (j < domain d i) × Open i j) (options d) f in from t.0 t.1
