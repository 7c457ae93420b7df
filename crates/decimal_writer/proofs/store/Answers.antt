-- `decimal_writer::store` meets its contract: before each turn the digits of `rest` are left to be stored. Assumes nothing.
use native.Mathlib.Omega.{arith}
use Rattle.decimal_writer.proofs.WriterLaws.{storing_none, storing_more, storing_all}
use Rattle.decimal_writer.proofs.store.Goals as goal

pub loop-i-init : goal.loop-i-init
loop-i-init c = storing_none _ _ c.requires

pub loop-i-preserved : goal.loop-i-preserved
loop-i-preserved c = storing_more (omega arith) c.loop-i.invariant c.loop-i-test.true (omega arith)

pub returns : goal.returns
returns c = storing_all (omega arith) c.loop-i.invariant c.loop-i-test.false
