-- `decimal_pairs::write_often` meets its contract. Assumes nothing.
use Rattle.std.proofs.Common.{◌+◌, ◌≤◌, length, sym, ◌∙◌, arith}
use borrow.Author.Tests.{leb-true}
use Rattle.decimal.specs.Digits.{digits}
use Rattle.decimal.proofs.BytesLaws.{put_all, put_count}
use Rattle.decimal.proofs.WriterLaws.{length_most}
use Rattle.decimal_pairs.proofs.write_often.Goals as goal

-- there is room for ten digits, as many as a u32 has
pub put_digits-requires : goal.put_digits-requires
put_digits-requires c = leb-true (c.args.at + 10) (length c.args.out.now) (sym c.has_room.ensures ∙ c.if-has_room.true)

pub returns-then-has_room : goal.returns-then-has_room
returns-then-has_room c =
    let r : c.args.at + 10 ≤ length c.args.out.now = leb-true _ _ (sym c.has_room.ensures ∙ c.if-has_room.true) in
    put_count (omega (arith, c.put_digits.ensures.next)) (put_all (digits c.args.n) c.args.at _ (omega (arith, r, length_most 9 c.args.n (omega arith) (omega arith))) c.put_digits.ensures)
