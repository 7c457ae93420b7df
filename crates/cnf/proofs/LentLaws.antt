-- The rules of a lent word list say what its table says, and they pass exactly when the words are well. Assumes nothing.
use Rattle.std.specs.Prelude.{None, Ok, Err}
use mathlib.Core.Path.{◌≡◌, refl, sym, ◌∙◌, ap}
use mathlib.Core.Bool.{Bool, true, false, ◌||◌, true≢false}
use mathlib.Core.List.{List, []}
use Prim.Native.Nat.{ℕ, ◌<◌}
use native.Mathlib.Omega.{arith}
use lib.Dec.{ltb}
use lib.IntN.{ℤ}
use lib.ListN.{length}
use borrow.Author.Tests.{ltb-true, ltb-false, le-ltb}
use Rattle.lists.specs.First.{found_if, first, FirstFailing}
use Rattle.lists.proofs.UptoLaws.{both_false}
use Rattle.lists.proofs.FirstLaws.{Tests, tests_each, tests_at, tests_one, tests_held}
use Rattle.refusal.specs.Rules.{refusal, chain}
use Rattle.refusal.proofs.RulesLaws.{not_due}
use Rattle.refusal.proofs.TableLaws.{Faithful}
use Rattle.cnf.specs.Words.{zeros, closed}
use Rattle.cnf.specs.Lent.{CountsFit, LimitsKept, InRange, WellWords, word_table, too_many, beyond_at, literal_rules, counted_rules, word_rules}

-- ---- number 16

pub counts_fit : (v clauses : ℕ) → too_many v clauses ≡ false → CountsFit v clauses
counts_fit v clauses e =
    let w = both_false (ltb 1000000 v) (ltb 4000000 clauses) e in
    record { variables = ltb-false 1000000 v w.0; clause_count = ltb-false 4000000 clauses w.1 }

pub fit_counts : (v clauses : ℕ) → CountsFit v clauses → too_many v clauses ≡ false
fit_counts v clauses c = rw (le-ltb 1000000 v c.variables, le-ltb 4000000 clauses c.clause_count)

pub tests_counts : (place v clauses : ℕ) → Tests (found_if (too_many v clauses) place) (λ p. (p ≡ place) × (CountsFit v clauses → ⊥)) (CountsFit v clauses)
tests_counts place v clauses = tests_at place (too_many v clauses) (CountsFit v clauses) (counts_fit v clauses) (λ e c. true≢false (sym e ∙ fit_counts v clauses c))

module _ (v : ℕ) (ws : List ℤ) where
  abbrev past_limits : Bool
  past_limits = too_many v (zeros ws) || ltb 100000000 (length ws)

  limits_kept : past_limits ≡ false → LimitsKept v ws
  limits_kept e =
      let w = both_false (too_many v (zeros ws)) (ltb 100000000 (length ws)) e in
      record { counts = counts_fit v (zeros ws) w.0; words = ltb-false 100000000 (length ws) w.1 }

  kept_limits : LimitsKept v ws → past_limits ≡ false
  kept_limits l = rw (fit_counts v (zeros ws) l.counts, le-ltb 100000000 (length ws) l.words)

  tests_limits : Tests (found_if past_limits 0) (λ p. (p ≡ 0) × (LimitsKept v ws → ⊥)) (LimitsKept v ws)
  tests_limits = tests_one past_limits (LimitsKept v ws) limits_kept (λ e l. true≢false (sym e ∙ kept_limits l))

  -- ---- number 14

  tests_words : Tests (first (beyond_at v ws) (length ws)) (FirstFailing (length ws) (InRange v ws)) ((k : ℕ) → k < length ws → InRange v ws k)
  tests_words = tests_each (beyond_at v ws) (InRange v ws) (length ws) (λ k _. ltb-false v _) (λ k _ e h. omega (arith, ltb-true v _ e))

  -- ---- all three

  pub word_faithful : Faithful (word_rules v ws) (word_table v ws)
  unfolding word_rules counted_rules literal_rules
  word_faithful = (refl, tests_limits.at, λ _. (refl, tests_words.at, λ _. (refl, (tests_held (length ws) (closed ws)).at, λ _. tt)))

  -- number 16 is due, and comes first
  pub over_limits : (LimitsKept v ws → ⊥) → chain (word_rules v ws) ≡ Err (refusal 16 0)
  unfolding word_rules counted_rules chain
  over_limits h = rw ((tests_limits.at 0).1 (refl, h))

  pub words_well : chain (word_rules v ws) ≡ Ok tt → WellWords v ws
  unfolding word_rules counted_rules literal_rules
  words_well q =
      let q₁₆ = not_due 16 _ _ q in
      let q₁₄ = not_due 14 _ _ q₁₆.1 in
      record { limits = tests_limits.none.0 q₁₆.0; in_range = tests_words.none.0 q₁₄.0; ends = (tests_held (length ws) (closed ws)).none.0 (not_due 15 _ [] q₁₄.1).0 }

  pub well_words : WellWords v ws → chain (word_rules v ws) ≡ Ok tt
  unfolding word_rules counted_rules literal_rules chain
  well_words w = rw (tests_limits.none.1 w.limits, tests_words.none.1 w.in_range, w.ends)

  -- ---- the same rules as one pass comes to them: by a count of the zeros, and with a search for a literal beyond v only
  -- where there is one

  pub counted_rules_lem : (clauses : ℕ) (some : Bool) → clauses ≡ zeros ws → (some ≡ false → first (beyond_at v ws) (length ws) ≡ None) → counted_rules v ws clauses some ≡ word_rules v ws
  unfolding word_rules counted_rules literal_rules
  counted_rules_lem clauses true e none = rw e
  counted_rules_lem clauses false e none = rw (e, none refl)

  pub counted : (clauses : ℕ) (some : Bool) → clauses ≡ zeros ws → (some ≡ false → first (beyond_at v ws) (length ws) ≡ None) → chain (counted_rules v ws clauses some) ≡ chain (word_rules v ws)
  counted clauses some e none = ap chain (counted_rules_lem clauses some e none)
