-- `decimal_writer::store` meets its contract: before each turn the digits of `rest` are left to be stored. Assumes nothing.
use Rattle.decimal_writer.proofs.WriterLaws.{Storing}
use Rattle.decimal_writer.proofs.store.Given as goal

abbrev pub invariant-loop-i : goal.invariant-loop-i
invariant-loop-i l = Storing l.n l.part l.rest l.i
