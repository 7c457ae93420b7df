-- `refusal_lines::put_named` meets its contract: its parts one after the other. Assumes nothing.
use Rattle.std.proofs.Common.{arith}
use Rattle.lists.proofs.BufferLaws.{kept}
use Rattle.desk.proofs.PrintLaws.{named_feed}
use Rattle.refusal_lines.proofs.put_named.Goals as goal

pub overflow_add-b : goal.overflow_add-b
overflow_add-b c = let b = (named_feed _ _ c.requires c.put.ensures c.write.ensures) in omega (arith, b.inside)

pub bounds-out-b : goal.bounds-out-b
bounds-out-b c = (named_feed _ _ c.requires c.put.ensures c.write.ensures).inside

pub overflow_add-result : goal.overflow_add-result
overflow_add-result c = let b = (named_feed _ _ c.requires c.put.ensures c.write.ensures) in omega (arith, b.inside)

pub shape_of-out : goal.shape_of-out
shape_of-out c = kept (named_feed _ _ c.requires c.put.ensures c.write.ensures).wrote

pub returns : goal.returns
returns c = (named_feed _ _ c.requires c.put.ensures c.write.ensures).wrote
