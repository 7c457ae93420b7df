-- `clause_writer::emit_words` meets its contract: the words in place of as many, or nothing. Assumes nothing.
use native.Mathlib.Omega.{arith}
use mathlib.Core.Path.{refl}
use Rattle.encoding.proofs.ClauseLaws.{too_short, emits_part}
use Rattle.clause_writer.proofs.emit_words.Goals as goal

pub returns-in-Some : goal.returns-in-Some
returns-in-Some g c = let v = c.in-Some.ensures.variant.0 refl in emits_part 0 c.args.words _ (omega arith) (omega arith) refl (omega arith)

pub returns-in-None : goal.returns-in-None
returns-in-None g c = let v = c.in-None.ensures.cases in too_short 0 c.args.words _ (omega arith)
