-- The same table as tests that compute, and the build that they compute. Assumes nothing.
use Rattle.std.specs.Prelude.{Bool, not, List, [], ◌∷◌, ◌++◌, ℕ, suc, ◌+◌, eqb, ℤ, length}
use Rattle.lists.specs.Upto.{up_to, count_to, last_to}
use Rattle.lists.specs.First.{found_if, first}
use Rattle.refusal.specs.Rules.{Rule, rule, room_rule}
use Rattle.diagram.specs.Lent.{Lent, options, domain}
use Rattle.diagram.specs.Numbers.{first_value, values}
use Rattle.diagram.specs.Rules.{check_rules}
use Rattle.judge.specs.Promise.{allows_test}
use Rattle.clauses.specs.Clauses.{Edition, last_variable}
use Rattle.naming.specs.Naming.{mark, naming_rules}

-- where `is_true u` says whether the value variable with the number u + 1 is true
module _ (d : Lent) (is_true : ℕ → Bool) where
  -- value j of option i is true
  abbrev pub has_value : ℕ → ℕ → Bool
  has_value i j = is_true (first_value d i + j)

  -- option i has not exactly one true value
  unfoldable pub unclear : ℕ → Bool
  unclear i = not (eqb (count_to (domain d i) (has_value i)) 1)

  -- its last true value, which is the one where it has exactly one
  unfoldable pub value_of : ℕ → ℕ
  value_of i = last_to (domain d i) (has_value i)

  abbrev pub values_to : ℕ → List ℕ
  values_to n = up_to n (λ i. value_of i ∷ [])

module _ (d : Lent) (m : List ℤ) where
  -- the last literal that names the variable u + 1 names it true; one that none names counts as false
  abbrev pub names_true : ℕ → Bool
  names_true u = eqb (mark m (length m) (suc u)) 1

  -- the model's build, where each option has exactly one true value: number 12 sees to that, and nothing reads it before
  abbrev pub build_of : List ℕ
  build_of = values_to d names_true (options d)

  module _ (last : ℕ) where
    -- numbers 10 to 12, where V is `last`
    unfoldable pub value_rules : List Rule
    value_rules = naming_rules last (values d) m ++ (rule 12 (first (unclear d names_true) (options d)) ∷ [])

    -- and 13
    unfoldable pub literal_rules : List Rule
    literal_rules = value_rules ++ (rule 13 (found_if (not (allows_test d build_of)) 0) ∷ [])

    -- 7, for a lent list of `room` entries, and then these
    unfoldable pub sound_rules : ℕ → List Rule
    sound_rules room = room_rule (options d) room ∷ literal_rules

  unfoldable pub model_rules : Edition → ℕ → List Rule
  model_rules e room = check_rules d ++ sound_rules (last_variable e d) room
