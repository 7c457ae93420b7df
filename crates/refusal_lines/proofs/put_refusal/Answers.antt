-- `refusal_lines::put_refusal` meets its contract: two lines. Assumes nothing.
use Rattle.desk.proofs.PrintLaws.{first_room, second_room, both_lines}
use Rattle.refusal_lines.proofs.put_refusal.Goals as goal

pub put_named-next-requires : goal.put_named-next-requires
put_named-next-requires c = first_room _ c.args.out.now c.requires

pub put_named-requires : goal.put_named-requires
put_named-requires c = second_room _ c.put_named-next.ensures c.requires

pub returns : goal.returns
returns c = both_lines _ c.put_named-next.ensures c.put_named.ensures
