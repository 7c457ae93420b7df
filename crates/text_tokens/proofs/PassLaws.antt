-- What a pass over tokens tells: they are good and counted, or the first refusal. Assumes nothing.
use Rattle.std.specs.Prelude.{Ok, Err}
use mathlib.Core.Path.{◌≡◌, ap}
use mathlib.Core.List.{List}
use Prim.Native.Nat.{ℕ}
use Rattle.refusal.specs.Rules.{chain}
use Rattle.refusal.specs.declared.Refusal.{Refusal}
use Rattle.dimacs.specs.Tokens.{Token}
use Rattle.dimacs.specs.Rules.{token_rules}
use Rattle.dimacs.proofs.VerdictLaws.{given_refused, given_passed}
use Rattle.text_tokens.specs.Passes.{passed, pass_of, PassedOver}
use Rattle.text_tokens.specs.declared.Pass.{Pass}

module _ (v : ℕ) (ts : List Token) where
  pub pass_bad : {r : Refusal} → pass_of v ts ≡ Err r → chain (token_rules v ts) ≡ Err r
  pass_bad e = given_refused (chain (token_rules v ts)) (passed ts) e

  pub pass_good : {p : Pass} → pass_of v ts ≡ Ok p → PassedOver v ts p
  pass_good e = let q = given_passed (chain (token_rules v ts)) (passed ts) e in (q.0, ap (λ (p : Pass). p.words) q.1, ap (λ (p : Pass). p.clauses) q.1, ap (λ (p : Pass). p.closed) q.1)
