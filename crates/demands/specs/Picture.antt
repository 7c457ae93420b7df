-- Sample S3 worked out: its clauses; the one setting of the build (0,1), which it allows; how unit propagation from (1,1),
-- which it does not allow, comes to a conflict; and three half_finished orders. The variables: 1, 2 and 3, 4 are the values
-- of the two options; 5 is F, 6 is T, 7 the root, 8 the other node; 9, 10 are the root's edges, to the other node and to F;
-- 11, 12 that node's, to F and to T. Assumes nothing.
use Rattle.std.specs.Prelude.{◌≡◌, ◌⊎◌, Bool, true, false, ◌&&◌, ℕ, suc, ◌<◌, eqb, ℤ, neg_ℤ, length, get_or}
use mathlib.Core.List.{List, [], ◌∷◌, Memᴰ}
use Rattle.lists.specs.Upto.{up_to}
use Rattle.lists.specs.Every.{Each}
use Rattle.cnf.specs.Clause.{Clause, plain, negated, Setting, Satisfies, Conflict}
use Rattle.diagram.specs.Lent.{chosen}
use Rattle.diagram.specs.Sound.{Sound}
use Rattle.clauses.specs.Clauses.{edition1, option_clauses, clauses}
use Rattle.demands.specs.HalfFinished.{Order, OrderLiteral}
use Rattle.demands.specs.Demand3.{BuildLiteral, OneSetting, NoSetting}
use Rattle.demands.specs.Samples.{s3}

abbrev pub s3_clauses : List Clause
s3_clauses =
    -- each option has a value, and no two
    (plain 1 ∷ plain 2 ∷ [])
    ∷ (negated 1 ∷ negated 2 ∷ [])
    ∷ (plain 3 ∷ plain 4 ∷ [])
    ∷ (negated 3 ∷ negated 4 ∷ [])
    -- T, not F, root
    ∷ (plain 6 ∷ [])
    ∷ (negated 5 ∷ [])
    ∷ (plain 7 ∷ [])
    -- the root: T1, then T2 to T5 of its edges
    ∷ (negated 7 ∷ plain 9 ∷ plain 10 ∷ [])
    ∷ (negated 9 ∷ plain 7 ∷ [])
    ∷ (negated 9 ∷ plain 8 ∷ [])
    ∷ (negated 9 ∷ plain 1 ∷ [])
    ∷ (negated 8 ∷ negated 1 ∷ plain 9 ∷ [])
    ∷ (negated 10 ∷ plain 7 ∷ [])
    ∷ (negated 10 ∷ plain 5 ∷ [])
    ∷ (negated 10 ∷ plain 2 ∷ [])
    ∷ (negated 5 ∷ negated 2 ∷ plain 10 ∷ [])
    -- the other node
    ∷ (negated 8 ∷ plain 11 ∷ plain 12 ∷ [])
    ∷ (negated 11 ∷ plain 8 ∷ [])
    ∷ (negated 11 ∷ plain 5 ∷ [])
    ∷ (negated 11 ∷ plain 3 ∷ [])
    ∷ (negated 5 ∷ negated 3 ∷ plain 11 ∷ [])
    ∷ (negated 12 ∷ plain 8 ∷ [])
    ∷ (negated 12 ∷ plain 6 ∷ [])
    ∷ (negated 12 ∷ plain 4 ∷ [])
    ∷ (negated 6 ∷ negated 4 ∷ plain 12 ∷ [])
    ∷ []

-- the builds (0,1) and (1,1)
abbrev pub build01 : ℕ → ℕ
build01 = chosen (0 ∷ 1 ∷ [])

abbrev pub build11 : ℕ → ℕ
build11 = chosen (1 ∷ 1 ∷ [])

-- what the variables 1 to 12 are in the setting of (0,1)
abbrev pub setting01 : List Bool
setting01 =
    -- the values 0 and 1 of the first option, and those of the second
    true ∷ false ∷ false ∷ true
    -- F, T, root, the other node
    ∷ false ∷ true ∷ true ∷ true
    -- the root's edges, and that node's
    ∷ true ∷ false ∷ false ∷ true ∷ []

-- a literal that is reached, and which clause of the list it is by, counted from 0
pub record Reach : Type 0 where
  pub literal : ℤ
  pub by : ℕ

abbrev pub reach : ℤ → ℕ → Reach
reach l k = record { literal = l; by = k }

-- from the known literals each is reached in turn: its clause has it, and beside it only literals whose negation is known by
-- then. At the end the negation of every literal of clause k is known
abbrev pub Propagates : List Clause → List ℤ → List Reach → ℕ → Type 0
Propagates cs known [] k = (k < length cs) × Each (λ m. Memᴰ (neg_ℤ m) known) (get_or cs k [])
Propagates cs known (r ∷ rest) k = (r.by < length cs) × Memᴰ r.literal (get_or cs r.by []) × Each (λ m. (m ≡ r.literal) ⊎ Memᴰ (neg_ℤ m) known) (get_or cs r.by []) × Propagates cs (r.literal ∷ known) rest k

-- the literals of (1,1)
abbrev pub given11 : List ℤ
given11 = plain 2 ∷ plain 4 ∷ []

-- from them: the first option's other value is out, by the pair; with it the root's first edge, by T4; F is out, by its
-- unit; with it the root's second edge, by T3; so the root is out, by T1
abbrev pub reached11 : List Reach
reached11 =
    reach (negated 1) 1
    ∷ reach (negated 9) 10
    ∷ reach (negated 5) 5
    ∷ reach (negated 10) 13
    ∷ reach (negated 7) 7
    ∷ []

-- orders on S3: value 0 of the first option ruled out; value 0 of the second ruled out; both values of the second
abbrev pub first0_out : Order
first0_out = record { ruled_in = λ i j. false; ruled_out = λ i j. eqb i 0 && eqb j 0 }

abbrev pub second0_out : Order
second0_out = record { ruled_in = λ i j. false; ruled_out = λ i j. eqb i 1 && eqb j 0 }

abbrev pub second_out : Order
second_out = record { ruled_in = λ i j. false; ruled_out = λ i j. eqb i 1 }

pub record Picture : Type 0 where
  pub sound : Sound s3
  pub the_clauses : clauses edition1 s3 ≡ s3_clauses
  -- (0,1) has a setting, and it is this; no other setting satisfies the clauses
  pub has_setting : OneSetting s3 12 s3_clauses build01
  pub the_setting : (σ : Setting) → Satisfies σ s3_clauses → up_to 12 (λ k. σ (suc k) ∷ []) ≡ setting01
  -- (1,1) has none; from its two literals propagation goes this way, to a conflict with the clause "root"
  pub has_none : NoSetting s3 s3_clauses build11
  pub the_literals : Each (BuildLiteral s3 build11) given11
  pub the_way : Propagates s3_clauses given11 reached11 6
  -- the first order conflicts, the second does not, and the third does in the second option's own clauses
  pub first_conflicts : Conflict (OrderLiteral s3 first0_out) s3_clauses
  pub second_open : Conflict (OrderLiteral s3 second0_out) s3_clauses → ⊥
  pub third_conflicts : Conflict (OrderLiteral s3 second_out) (option_clauses edition1 s3 1)
