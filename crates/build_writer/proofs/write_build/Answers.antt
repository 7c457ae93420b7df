-- `build_writer::write_build` meets its contract. Assumes nothing.
use Rattle.std.proofs.Common.{length, sym, ◌∙◌}
use Rattle.std.proofs.Math.Seq.{length-take-le}
use Rattle.lists.specs.Buffer.{over}
use Rattle.refusal.proofs.RoomLaws.{fits}
use Rattle.build_writer.proofs.write_build.Goals as goal

pub slice_bounds-copy_from_slice-end : goal.slice_bounds-copy_from_slice-end
slice_bounds-copy_from_slice-end c = fits _ _ (sym c.check_room.ensures ∙ c.in_ok-check_room.was)

pub slice_bounds-copy_from_slice-end-2 : goal.slice_bounds-copy_from_slice-end-2
slice_bounds-copy_from_slice-end-2 c = sym (length-take-le (length c.args.build.now) c.args.out.now (fits _ _ (sym c.check_room.ensures ∙ c.in_ok-check_room.was)))

pub copy_from_slice-requires : goal.copy_from_slice-requires
copy_from_slice-requires c = length-take-le (length c.args.build.now) c.args.out.now (fits _ _ (sym c.check_room.ensures ∙ c.in_ok-check_room.was))

pub returns-clause-out_after : goal.returns-clause-out_after
unfolding over
returns-clause-out_after c = rw (sym c.check_room.ensures ∙ c.in_ok-check_room.was, c.copy_from_slice.ensures.after)
