-- `clause_writer::emit_units` meets its contract: nothing, or three clauses of one literal. Assumes nothing.
use native.Mathlib.Omega.{arith}
use Rattle.encoding.proofs.ClauseLaws.{plain_word, negated_word, units_words, too_many, few_enough}
use Rattle.clause_writer.proofs.emit_units.Goals as goal

pub returns-then-counts-gt-MAX_VARIABLES : goal.returns-then-counts-gt-MAX_VARIABLES
returns-then-counts-gt-MAX_VARIABLES c = too_many _ _ _ (omega arith)

pub returns : goal.returns
returns c =
    let words = units_words c.args.counts.values (plain_word _ c.reference_variable-t.ensures (omega arith)) (negated_word _ c.reference_variable-f.ensures (omega arith)) (plain_word _ c.reference_variable-root.ensures (omega arith)) in
    few_enough (omega arith) words c.emit_words.ensures
