-- `text_writer::put_header` meets its contract: its parts one after the other. Assumes nothing.
use native.Mathlib.Omega.{arith}
use Rattle.lists.proofs.BufferLaws.{kept}
use Rattle.text_writer.proofs.PutLaws.{header_space, header_feed}
use Rattle.text_writer.proofs.put_header.Goals as goal

-- after V the space goes to the end
pub overflow_add-b : goal.overflow_add-b
overflow_add-b c = let b = header_space _ _ c.requires c.put-a.ensures c.write.ensures in record { fits = omega arith }

pub bounds-out-b : goal.bounds-out-b
bounds-out-b c = let b = header_space _ _ c.requires c.put-a.ensures c.write.ensures in b.inside

pub overflow_add-c : goal.overflow_add-c
overflow_add-c c = let b = header_space _ _ c.requires c.put-a.ensures c.write.ensures in record { fits = omega arith }

-- and after the clause count the line feed
pub overflow_add-d : goal.overflow_add-d
overflow_add-d c = let b = header_feed _ _ c.requires c.put-a.ensures c.write.ensures c.write-2.ensures in record { fits = omega arith }

pub bounds-out-d : goal.bounds-out-d
bounds-out-d c = let b = header_feed _ _ c.requires c.put-a.ensures c.write.ensures c.write-2.ensures in b.inside

pub overflow_add-result : goal.overflow_add-result
overflow_add-result c = let b = header_feed _ _ c.requires c.put-a.ensures c.write.ensures c.write-2.ensures in record { fits = omega arith }

pub shape_of-out : goal.shape_of-out
shape_of-out c = let b = header_feed _ _ c.requires c.put-a.ensures c.write.ensures c.write-2.ensures in kept b.wrote

pub returns : goal.returns
returns c = let b = header_feed _ _ c.requires c.put-a.ensures c.write.ensures c.write-2.ensures in b.wrote
