-- A build as a list of n values, the form in which the library takes it: what the clauses mean with builds as functions
-- gives what they mean with builds as lists. Assumes nothing.
use mathlib.Core.Path.{◌≡◌, sym, ◌∙◌, ap}
use mathlib.Core.List.{List, [], ◌∷◌}
use Prim.Native.Nat.{ℕ, ◌<◌}
use Rattle.lists.specs.Upto.{up_to}
use Rattle.lists.proofs.UptoLaws.{list_singles, list_at}
use Rattle.cnf.specs.Clause.{Clause, Setting}
use Rattle.diagram.specs.Lent.{Lent, options, chosen, Build, RootAllows}
use Rattle.diagram.proofs.AllowsLaws.{Ranked, end_agrees, root_later, allows_exactly}
use Rattle.judge.specs.Build.{Fits}
use Rattle.demands.specs.Demand3.{Gives, Meaning}
use Rattle.demands.specs.HalfFinished.{Order, FitsOrder}

module _ (d : Lent) (ok : Ranked d) (x : ℕ → ℕ) (b : Build d x) where
  abbrev listed : List ℕ
  listed = up_to (options d) (λ i. x i ∷ [])

  listed_at : (i : ℕ) → i < options d → chosen listed i ≡ x i
  listed_at = list_at 0 x (options d)

  listed_fits : Fits d listed
  listed_fits = record { whole = list_singles (options d) x; in_domain = λ i h. rw (listed_at i h) (b i h) }

  listed_allows : RootAllows d x → RootAllows d (chosen listed)
  listed_allows a =
      (allows_exactly d ok (chosen listed) listed_fits.in_domain).0
      (sym (end_agrees d ok x b (chosen listed) 0 2 (root_later d ok) (λ i p h. sym (listed_at i h))) ∙ (allows_exactly d ok x b).1 a)

  listed_gives : (σ : Setting) → Gives d x σ → Gives d (chosen listed) σ
  listed_gives σ g = record { in_range = listed_fits.in_domain; exactly = λ i j h l. rw (listed_at i h) (g.exactly i j h l) }

  listed_order : (o : Order) → FitsOrder d o x → FitsOrder d o (chosen listed)
  listed_order o f = record { keeps_in = λ i j h l p. f.keeps_in i j h l p ∙ sym (listed_at i h); keeps_out = λ i h. ap (o.ruled_out i) (listed_at i h) ∙ f.keeps_out i h }

pub meaning_listed : (d : Lent) → Ranked d → {last : ℕ} {cs : List Clause} → Meaning d last cs (Build d) (λ x. x) → Meaning d last cs (Fits d) chosen
meaning_listed d ok m =
    record {
      allowed = λ build f. m.allowed (chosen build) f.in_domain;
      not_allowed = λ build f. m.not_allowed (chosen build) f.in_domain;
      every_satisfying = λ σ s. let t = m.every_satisfying σ s in (listed d ok t.0 t.1, listed_fits d ok t.0 t.1, listed_gives d ok t.0 t.1 σ t.2, listed_allows d ok t.0 t.1 t.3);
      only_to_last = m.only_to_last;
      half_finished = record {
        none_fits = λ o none. m.half_finished.none_fits o (λ x b f a. none (listed d ok x b) (listed_fits d ok x b) (listed_order d ok x b o f) (listed_allows d ok x b a));
        one_fits = λ o build f. m.half_finished.one_fits o (chosen build) f.in_domain;
      };
    }
