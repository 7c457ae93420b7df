-- Number 7: its rule says what its row says. Assumes nothing.
use Rattle.std.specs.Prelude.{Ok, Err}
use mathlib.Core.Path.{◌≡◌, refl}
use mathlib.Core.List.{[], ◌∷◌}
use Prim.Native.Nat.{ℕ, ◌≤◌, ◌<◌}
use borrow.Author.Tests.{lt-ltb, le-ltb}
use Rattle.lists.proofs.FirstLaws.{tests_room}
use Rattle.refusal.specs.Rules.{refusal, room_rule, chain}
use Rattle.refusal.specs.Table.{room_row}
use Rattle.refusal.proofs.RulesLaws.{not_due}
use Rattle.refusal.proofs.TableLaws.{Faithful}

module _ (needed room : ℕ) where
  pub room_faithful : Faithful (room_rule needed room ∷ []) (room_row needed room ∷ [])
  room_faithful = (refl, (tests_room room needed).at, λ _. tt)

  pub too_short : room < needed → chain (room_rule needed room ∷ []) ≡ Err (refusal 7 needed)
  unfolding chain
  too_short h = rw (lt-ltb room needed h)

  pub long_enough : needed ≤ room → chain (room_rule needed room ∷ []) ≡ Ok tt
  unfolding chain
  long_enough h = rw (le-ltb room needed h)

  pub fits : chain (room_rule needed room ∷ []) ≡ Ok tt → needed ≤ room
  fits e = (tests_room room needed).none.0 (not_due 7 _ [] e).0
