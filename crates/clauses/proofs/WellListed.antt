-- The words of a sound diagram's list are such as clause text takes. Assumes nothing.
use mathlib.Core.Path.{◌≡◌}
use mathlib.Core.Logic.{◌⊎◌, inl, inr}
use mathlib.Core.List.{Memᴰ}
use Prim.Native.Nat.{◌≤◌}
use native.Mathlib.Omega.{arith}
use lib.IntN.{ℤ, pos, nat_abs}
use Rattle.lists.proofs.EveryLaws.{entry_in}
use Rattle.cnf.specs.Clause.{words}
use Rattle.cnf.specs.Lent.{LimitsKept, word, WellWords}
use Rattle.diagram.specs.Lent.{Lent}
use Rattle.diagram.specs.Sound.{Sound, Within}
use Rattle.clauses.specs.Clauses.{Edition, edition1, last_variable, clauses}
use Rattle.clauses.specs.Editions.{OwnVariables}
use Rattle.clauses.proofs.Edition1.{edition1_own}
use Rattle.clauses.proofs.Edition1Sizes.{clauses_most, words_most, variables_most}
use Rattle.clauses.proofs.LiteralLaws.{closed_list, zeros_list, word_within}

-- in any edition whose counts keep the limits of clause text
module _ (e : Edition) (d : Lent) (own : OwnVariables e) (s : Sound d) where
  pub in_range : (w : ℤ) → Memᴰ w (words (clauses e d)) → nat_abs w ≤ last_variable e d
  in_range w m = go (word_within e d own s w m)
    where
      go : (w ≡ pos 0) ⊎ Within 1 (last_variable e d) (nat_abs w) → nat_abs w ≤ last_variable e d
      go (inl q) = rw q (omega arith)
      go (inr q) = q.1

  pub well_listed : LimitsKept (last_variable e d) (words (clauses e d)) → WellWords (last_variable e d) (words (clauses e d))
  well_listed limits = record { limits = limits; in_range = λ k h. in_range (word (words (clauses e d)) k) (entry_in (pos 0) (words (clauses e d)) k h); ends = closed_list e d }

-- in edition 1
module _ (d : Lent) (s : Sound d) where
  pub edition1_limits : LimitsKept (last_variable edition1 d) (words (clauses edition1 d))
  edition1_limits = record {
    counts = record { variables = omega (arith, variables_most d s.shaped); clause_count = omega (arith, clauses_most d s.shaped, zeros_list edition1 d edition1_own s) };
    words = omega (arith, words_most d s.shaped);
  }

  pub edition1_listed : WellWords (last_variable edition1 d) (words (clauses edition1 d))
  edition1_listed = well_listed edition1 d edition1_own s edition1_limits
