-- How `measure_words` comes to its answer, and what the answer tells: the words are good and measured, or the first refusal.
-- Assumes nothing.
use Rattle.std.specs.Prelude.{Ok, Err}
use mathlib.Core.Path.{◌≡◌, sym, ◌∙◌, ap}
use mathlib.Core.List.{List}
use Prim.Native.Nat.{ℕ, ◌<◌}
use native.Mathlib.Omega.{arith}
use lib.IntN.{ℤ}
use lib.ListN.{length}
use Rattle.refusal.specs.Said.{giving}
use Rattle.refusal.specs.Rules.{Verdict, refusal, chain}
use Rattle.refusal.specs.declared.Refusal.{Refusal}
use Rattle.cnf.specs.Words.{zeros}
use Rattle.cnf.specs.Lent.{word_rules}
use Rattle.cnf.proofs.LentLaws.{over_limits}
use Rattle.dimacs.specs.Text.{text_of}
use Rattle.dimacs.proofs.VerdictLaws.{given_refused, given_passed}
use Rattle.text_words.specs.Measured.{measured, measure_of, WordsMeasured}
use Rattle.text_words.specs.declared.Measure.{Measure}

same : {n n' z z' : ℕ} → n ≡ n' → z ≡ z' → ◌≡◌ {A = Measure} (record { clauses = n; size = z }) (record { clauses = n'; size = z' })
same p q = rw (p, q)

module _ (v : ℕ) (ws : List ℤ) where
  by_verdict : {w : Verdict} → chain (word_rules v ws) ≡ w → measure_of v ws ≡ giving w (measured v ws)
  by_verdict q = ap (λ (w : Verdict). giving w (measured v ws)) q

  -- over a limit
  pub too_many_variables : 1000000 < v → measure_of v ws ≡ Err (refusal 16 0)
  too_many_variables h = by_verdict (over_limits v ws (λ k. omega (arith, k.counts.variables)))

  pub too_many_words : 100000000 < length ws → measure_of v ws ≡ Err (refusal 16 0)
  too_many_words h = by_verdict (over_limits v ws (λ k. omega (arith, k.words)))

  pub measure_refuses : {r : Refusal} → chain (word_rules v ws) ≡ Err r → Err r ≡ measure_of v ws
  measure_refuses q = sym (by_verdict q)

  pub measure_gives : {n z : ℕ} → chain (word_rules v ws) ≡ Ok tt → n ≡ zeros ws → z ≡ length (text_of v ws) → Ok (record { clauses = n; size = z }) ≡ measure_of v ws
  measure_gives q p r = ap Ok (same p r) ∙ sym (by_verdict q)

  pub measure_bad : {r : Refusal} → measure_of v ws ≡ Err r → chain (word_rules v ws) ≡ Err r
  measure_bad e = given_refused (chain (word_rules v ws)) (measured v ws) e

  pub measure_good : {m : Measure} → measure_of v ws ≡ Ok m → WordsMeasured v ws m
  measure_good e = let q = given_passed (chain (word_rules v ws)) (measured v ws) e in (q.0, ap (λ (m : Measure). m.clauses) q.1, ap (λ (m : Measure). m.size) q.1)
