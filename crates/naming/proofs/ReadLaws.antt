-- How `read_names` comes to its answer: a literal is refused, or the marks are given; and what the answer tells. Assumes nothing.
use Rattle.std.specs.Prelude.{Ok, Err, Result}
use mathlib.Core.Path.{◌≡◌, sym, ◌∙◌, subst}
use mathlib.Core.List.{List, [], ◌∷◌}
use Prim.Native.Nat.{ℕ, ◌≤◌}
use lib.IntN.{ℤ}
use lib.ListN.{length}
use Rattle.lists.specs.First.{first}
use Rattle.refusal.specs.Rules.{Verdict, rule, chain}
use Rattle.refusal.specs.Said.{giving}
use Rattle.refusal.specs.declared.Refusal.{Refusal}
use Rattle.refusal.proofs.RulesLaws.{refuses, passes}
use Rattle.refusal.proofs.SaidLaws.{passed_given, refused_given}
use Rattle.literals.specs.Literals.{bad_at}
use Rattle.literals.proofs.LiteralLaws.{not_cut}
use Rattle.naming.specs.Naming.{again, naming_rules, marks_of, names_read}
use Rattle.naming.specs.Marks.{Marks}
use Rattle.naming.proofs.MarkLaws.{marks_of_lem}

module _ (last D : ℕ) (m : List ℤ) {u : Verdict} (tenth : u ≡ chain (rule 10 (first (bad_at last m) (length m)) ∷ [])) where
  -- number 10 is due
  pub refused_10 : {r : Refusal} → u ≡ Err r → chain (naming_rules last D m) ≡ Err r
  unfolding naming_rules
  refused_10 q = sym (refuses _ _ tenth q) ∙ q

  -- it is not, and 11 decides
  pub refused_11 : {v : Verdict} → u ≡ Ok tt → v ≡ chain (rule 11 (first (again D m) (length m)) ∷ []) → v ≡ chain (naming_rules last D m)
  unfolding naming_rules
  refused_11 q eleventh = passes _ _ tenth q eleventh

-- ---- what an answer tells, where V and D are not cut: as those of a diagram are not

module _ (last D : ℕ) (m : List ℤ) (nameable : last ≤ 2147483647) (small : D ≤ 2048) {r : Result (List ℕ) Refusal} (read : r ≡ names_read last D m) where
  not_cut_so : r ≡ giving (chain (naming_rules last D m)) (marks_of D m)
  not_cut_so = rw (not_cut 2147483647 last nameable, not_cut 2048 D small) at read

  pub names_refused : {e : Refusal} → r ≡ Err e → chain (naming_rules last D m) ≡ Err e
  names_refused q = refused_given _ _ (sym q ∙ not_cut_so)

  pub names_passed : {ms : List ℕ} → r ≡ Ok ms → (chain (naming_rules last D m) ≡ Ok tt) × Marks D m (length m) ms
  names_passed q = let w = passed_given _ _ (sym q ∙ not_cut_so) in (w.0, subst (Marks D m (length m)) (sym w.1) (marks_of_lem D m small))
