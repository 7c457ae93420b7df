-- What the marks that a model leaves say of an option. Assumes nothing.
use Rattle.std.specs.Prelude.{Some, None}
use mathlib.Core.Path.{◌≡◌, sym, ap}
use mathlib.Core.Bool.{Bool, true, false, not}
use mathlib.Core.List.{List, [], ◌∷◌}
use Prim.Native.Nat.{ℕ, ◌+◌, ◌≤◌, ◌<◌}
use native.Mathlib.Omega.{arith}
use lib.Dec.{eqb}
use lib.IntN.{ℤ}
use lib.ListN.{length}
use borrow.Author.Tests.{eqb-true, lt-ltb, le-ltb}
use Rattle.lists.specs.Upto.{count_to, last_to}
use Rattle.lists.specs.First.{first, sole}
use Rattle.lists.proofs.UptoLaws.{list_same, last_agrees}
use Rattle.lists.proofs.FirstLaws.{if_none, if_at, first_agrees, count_agrees, count_one}
use Rattle.diagram.specs.Lent.{Lent, options, domain}
use Rattle.diagram.specs.Numbers.{first_value, values}
use Rattle.diagram.proofs.NumberLaws.{value_sums}
use Rattle.naming.specs.Marks.{Marks, marked_true}
use Rattle.model.specs.Rules.{has_value, unclear, value_of, values_to, names_true, build_of}
use Rattle.model.specs.Steps.{unread}

-- ---- an option's value

module _ (d : Lent) (is_true : ℕ → Bool) (i : ℕ) where
  abbrev one : Bool
  one = eqb (count_to (domain d i) (has_value d is_true i)) 1

  -- a search for its one true value finds it, or finds that there is not exactly one
  pub clear : {v : ℕ} → sole (has_value d is_true i) (domain d i) ≡ Some v → (unclear d is_true i ≡ false) × (value_of d is_true i ≡ v) × (v < domain d i)
  unfolding sole unclear value_of
  clear {v} e = let w = if_at one (last_to (domain d i) (has_value d is_true i)) v e in (ap not w.0, sym w.1, omega (arith, w.1, (count_one (has_value d is_true i) (domain d i) (eqb-true _ 1 w.0)).0))

  pub not_clear : sole (has_value d is_true i) (domain d i) ≡ None → unclear d is_true i ≡ true
  unfolding sole unclear
  not_clear e = ap not (if_none one (last_to (domain d i) (has_value d is_true i)) e)

-- where it has a mark for each value it is refused only where it is not clear, and otherwise always
module _ (d : Lent) (marks : List ℕ) (i : ℕ) where
  pub marked_unread : first_value d i + domain d i ≤ length marks → unread d marks i ≡ unclear d (marked_true marks) i
  unfolding unread
  marked_unread h = rw (le-ltb (length marks) (first_value d i + domain d i) h)

  pub unmarked_unread : length marks < first_value d i + domain d i → unread d marks i ≡ true
  unfolding unread
  unmarked_unread h = rw (lt-ltb (length marks) (first_value d i + domain d i) h)

-- ---- the marks that the whole model leaves say what the model says

module _ (d : Lent) (m : List ℤ) (ms : List ℕ) (marks : Marks (values d) m (length m) ms) where
  same_true : (i j : ℕ) → i < options d → j < domain d i → has_value d (marked_true ms) i j ≡ has_value d (names_true d m) i j
  same_true i j h l = ap (λ (k : ℕ). eqb k 1) (marks.said (first_value d i + j) (omega (arith, (value_sums d).room i (options d) h)))

  pub same_unclear : first (unclear d (marked_true ms)) (options d) ≡ first (unclear d (names_true d m)) (options d)
  unfolding unclear
  same_unclear = first_agrees _ _ (options d) (λ i h. ap (λ (n : ℕ). not (eqb n 1)) (count_agrees _ _ (domain d i) (λ j l. same_true i j h l)))

  pub same_values : values_to d (marked_true ms) (options d) ≡ build_of d m
  unfolding value_of
  same_values = list_same _ _ (options d) (λ i h. ap (λ (v : ℕ). v ∷ []) (last_agrees _ _ (domain d i) (λ j l. same_true i j h l)))
