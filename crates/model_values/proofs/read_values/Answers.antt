-- `model_values::read_values` meets its contract: the build has a place for each option. Assumes nothing.
use Rattle.std.proofs.Common.{sym, ◌∙◌}
use Rattle.refusal.proofs.RoomLaws.{fits}
use Rattle.model_values.proofs.read_values.Goals as goal

pub first_unread-requires : goal.first_unread-requires
first_unread-requires c = fits _ _ (sym c.check_room.ensures ∙ c.in_ok-check_room.was)
