-- What the true marks of an option say: that there is exactly one, and which; and where its marks stand among all. Assumes nothing.
use Rattle.std.specs.Prelude.{◌≡◌, ◌==◌, true, false, List, ℕ, Option, Some, None, ◌+◌, ◌-◌, ◌≤◌, ◌<◌, count_by, length, position}
use Rattle.std.specs.List.{slice_range}
use Rattle.std.proofs.Common.{sym, ◌∙◌, ap, take, drop, arith}
use Rattle.std.proofs.Math.Seq.{length-take-le, get_or-take, get_or-drop}
use Rattle.std.proofs.lemmas.List.{length-drop}
use borrow.Author.Tests.{eq-eqb, ne_eqb}
use lib.Dec.{eqb}
use Rattle.lists.specs.Upto.{count_to, last_to}
use Rattle.lists.specs.First.{sole}
use Rattle.lists.proofs.UptoLaws.{last_agrees, is_false}
use Rattle.lists.proofs.FirstLaws.{count_agrees, count_one, least_found}
use Rattle.lists.proofs.IterLaws.{position_first, count_by_to}
use Rattle.diagram.specs.Lent.{Lent, domain}
use Rattle.diagram.specs.Numbers.{first_value}
use Rattle.naming.specs.Marks.{marked_true}
use Rattle.model.specs.Rules.{has_value, unclear, value_of}
use Rattle.model.specs.Steps.{unread}
use Rattle.model.proofs.MarkLaws.{clear, not_clear, marked_unread}

module _ (ms : List ℕ) where
  pub one_true : count_by (λ m. m == 1) ms ≡ 1 → position (λ m. m == 1) ms ≡ sole (marked_true ms) (length ms)
  unfolding sole
  one_true e =
      let c = sym (count_by_to (λ (m : ℕ). m == 1) ms 0) ∙ e in
      let w = count_one (marked_true ms) (length ms) c in
      let q : eqb (count_to (length ms) (marked_true ms)) 1 ≡ true = eq-eqb _ 1 c in
      position_first (λ (m : ℕ). m == 1) ms 0
      ∙ least_found (marked_true ms) (length ms) (last_to (length ms) (marked_true ms)) w.0 w.1 (λ k l. is_false _ (λ t. absurd (omega (arith, w.2 k (omega (arith, w.0)) t))))
      ∙ rw q

  pub not_one_true : (count_by (λ m. m == 1) ms ≡ 1 → ⊥) → None ≡ sole (marked_true ms) (length ms)
  unfolding sole
  not_one_true n = let q : eqb (count_to (length ms) (marked_true ms)) 1 ≡ false = ne_eqb _ 1 (λ e. n (count_by_to (λ (m : ℕ). m == 1) ms 0 ∙ e)) in rw q

-- the marks of n values, which stand after `before` others
module _ (marks : List ℕ) (before n : ℕ) (h : before + n ≤ length marks) where
  abbrev own : List ℕ
  own = take n (drop before marks)

  own_length : length own ≡ n
  own_length = length-take-le n (drop before marks) (omega (arith, length-drop before marks))

  own_true : (j : ℕ) → j < n → marked_true own j ≡ marked_true marks (before + j)
  own_true j l = ap (λ (k : ℕ). eqb k 1) (get_or-take n (drop before marks) j 0 l ∙ get_or-drop before marks j 0)

  pub own_sole : sole (marked_true own) (length own) ≡ sole (λ j. marked_true marks (before + j)) n
  unfolding sole
  own_sole = rw (own_length, count_agrees (marked_true own) (λ j. marked_true marks (before + j)) n own_true, last_agrees (marked_true own) (λ j. marked_true marks (before + j)) n own_true)

-- what is found among an option's own marks says whether the option is refused, and what its value is
module _ (d : Lent) (marks : List ℕ) (i : ℕ) {before : ℕ} (stands : before ≡ first_value d i) (room : before + domain d i ≤ length marks) {part : List ℕ} (is : part ≡ slice_range marks before (before + domain d i)) {found : Option ℕ} (search : found ≡ sole (marked_true part) (length part)) where
  found_is : found ≡ sole (has_value d (marked_true marks) i) (domain d i)
  found_is = let e : before + domain d i - before ≡ domain d i = omega arith in let f : found ≡ sole (λ j. marked_true marks (before + j)) (domain d i) = search ∙ rw (is, e) (own_sole marks before (domain d i) room) in rw stands at f

  unread_is : unread d marks i ≡ unclear d (marked_true marks) i
  unread_is = marked_unread d marks i (omega (arith, stands, room))

  pub refused : found ≡ None → unread d marks i ≡ true
  refused e = unread_is ∙ not_clear d (marked_true marks) i (sym found_is ∙ e)

  pub read : {v : ℕ} → found ≡ Some v → (unread d marks i ≡ false) × (value_of d (marked_true marks) i ≡ v) × (v < domain d i)
  read e = let w = clear d (marked_true marks) i (sym found_is ∙ e) in (unread_is ∙ w.0, w.1, w.2)
