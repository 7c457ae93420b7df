-- A rule list that computes what a table's rows say gives its verdict exactly when the table does. Assumes nothing.
use Rattle.std.specs.Prelude.{Option, Some, None, Ok, Err}
use mathlib.Core.Path.{◌≡◌, refl, sym, ◌∙◌, ap}
use mathlib.Core.List.{List, [], ◌∷◌, ◌++◌}
use mathlib.Core.Logic.{inl, inr, ◌↔◌}
use Prim.Native.Nat.{ℕ}
use native.Mathlib.Omega.{arith}
use Rattle.lists.proofs.FirstLaws.{found_one}
use Rattle.refusal.specs.Rules.{Verdict, Rule, rule, refusal, chain}
use Rattle.refusal.specs.Table.{Row, row, GivenIn, NoneDue, ExactlyWhen}
use Rattle.refusal.specs.declared.Refusal.{Refusal}
use Rattle.refusal.proofs.RulesLaws.{never_both}

-- each rule has its row's number and, where no rule before it is due, computes the place at which the row is due
abbrev pub Faithful : List Rule → List Row → Type 0
Faithful [] [] = Unit {0}
Faithful [] (r ∷ table) = ⊥
Faithful (r ∷ rules) [] = ⊥
Faithful (rule n found ∷ rules) (row m due ∷ table) = (n ≡ m) × ((p : ℕ) → (found ≡ Some p) ↔ due p) × (found ≡ None → Faithful rules table)

pub faithful_append : (xs ys : List Rule) (ts us : List Row) → Faithful xs ts → (chain xs ≡ Ok tt → Faithful ys us) → Faithful (xs ++ ys) (ts ++ us)
unfolding chain
faithful_append [] ys [] us f g = g refl
faithful_append [] ys (t ∷ ts) us f g = absurd f
faithful_append (x ∷ xs) ys [] us f g = absurd f
faithful_append (rule n found ∷ xs) ys (row m due ∷ ts) us f g = (f.0, f.1, λ e. faithful_append xs ys ts us (f.2 e) (λ q. g (rw e q)))

nowhere : (found : Option ℕ) → ((p : ℕ) → found ≡ Some p → ⊥) → found ≡ None
nowhere None h = refl
nowhere (Some p) h = absurd (h p refl)

parts : (n p m q : ℕ) → ◌≡◌ {A = Verdict} (Err (refusal n p)) (Err (refusal m q)) → (n ≡ m) × (p ≡ q)
parts n p m q e = (ap number e, ap place e)
  where
    number : Verdict → ℕ
    number (Ok tt) = 0
    number (Err r) = r.number

    place : Verdict → ℕ
    place (Ok tt) = 0
    place (Err r) = r.place

given : (rules : List Rule) (table : List Row) → Faithful rules table → (n p : ℕ) → chain rules ≡ Err (refusal n p) → GivenIn table n p
unfolding chain
given [] [] f n p e = let z : ◌≡◌ {A = ℕ} 0 1 = cc in absurd (omega arith)
given [] (r ∷ table) f n p e = absurd f
given (r ∷ rules) [] f n p e = absurd f
given (rule k (Some q) ∷ rules) (row m due ∷ table) f n p e = let w = parts k q n p e in inl (sym w.0 ∙ f.0, (f.1 p).0 (ap Some w.1))
given (rule k None ∷ rules) (row m due ∷ table) f n p e = inr ((λ q d. found_one None refl ((f.1 q).1 d)), given rules table (f.2 refl) n p e)

gives : (rules : List Rule) (table : List Row) → Faithful rules table → (n p : ℕ) → GivenIn table n p → chain rules ≡ Err (refusal n p)
unfolding chain
gives [] [] f n p g = absurd g
gives [] (r ∷ table) f n p g = absurd f
gives (r ∷ rules) [] f n p g = absurd f
gives (rule k found ∷ rules) (row m due ∷ table) f n p (inl w) = rw ((f.1 p).1 w.1) (ap (λ (j : ℕ). Err (refusal j p)) (f.0 ∙ sym w.0))
gives (rule k found ∷ rules) (row m due ∷ table) f n p (inr w) = let z = nowhere found (λ q d. w.0 q ((f.1 q).0 d)) in rw z (gives rules table (f.2 z) n p w.1)

pass_none : (rules : List Rule) (table : List Row) → Faithful rules table → chain rules ≡ Ok tt → NoneDue table
unfolding chain
pass_none [] [] f e = tt
pass_none [] (r ∷ table) f e = absurd f
pass_none (r ∷ rules) [] f e = absurd f
pass_none (rule k (Some q) ∷ rules) (row m due ∷ table) f e = let z : ◌≡◌ {A = ℕ} 0 1 = cc in absurd (omega arith)
pass_none (rule k None ∷ rules) (row m due ∷ table) f e = ((λ q d. found_one None refl ((f.1 q).1 d)), pass_none rules table (f.2 refl) e)

none_pass : (rules : List Rule) (table : List Row) → Faithful rules table → NoneDue table → chain rules ≡ Ok tt
unfolding chain
none_pass [] [] f g = refl
none_pass [] (r ∷ table) f g = absurd f
none_pass (r ∷ rules) [] f g = absurd f
none_pass (rule k found ∷ rules) (row m due ∷ table) f g = let z = nowhere found (λ q d. g.0 q ((f.1 q).0 d)) in rw z (none_pass rules table (f.2 z) g.1)

pub passed_exactly : (rules : List Rule) (table : List Row) → Faithful rules table → (chain rules ≡ Ok tt) ↔ NoneDue table
passed_exactly rules table f = (pass_none rules table f, none_pass rules table f)

pub passes_or_refuses : (v : Verdict) → ((r : Refusal) → v ≡ Err r → ⊥) → v ≡ Ok tt
passes_or_refuses (Ok tt) h = refl
passes_or_refuses (Err r) h = absurd (h r refl)

-- for any answer that is a refusal exactly where the verdict is
module _ (rules : List Rule) (table : List Row) (f : Faithful rules table) where
  pub exactly_when : {Is : Refusal → Type 0} → ((r : Refusal) → Is r ↔ (chain rules ≡ Err r)) → ExactlyWhen table Is
  exactly_when g =
      record {
        refused = λ n p. ((λ e. given rules table f n p ((g (refusal n p)).0 e)), (λ h. (g (refusal n p)).1 (gives rules table f n p h)));
        not_refused = (
          (λ h. pass_none rules table f (passes_or_refuses (chain rules) (λ r e. h r ((g r).1 e)))),
          (λ h r e. never_both (chain rules) (none_pass rules table f h) ((g r).0 e)),
        );
      }
