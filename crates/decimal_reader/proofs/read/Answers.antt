-- `decimal_reader::read` meets its contract. Assumes nothing.
use mathlib.Core.Path.{sym, ◌∙◌}
use mathlib.Core.Bool.{true, false}
use native.Mathlib.Omega.{arith}
use Rattle.std.proofs.lemmas.List.{length-take-le}
use Rattle.decimal.proofs.RunLaws.{length_run}
use Rattle.decimal_reader.proofs.ReadLaws.{none_there, end_inside, digits_there}
use Rattle.decimal_reader.proofs.read.Goals as goal

pub returns-in_default : goal.returns-in_default
returns-in_default c = none_there c.args.text.now c.args.at (omega (arith, c.in_default.ensures.lookup.0))

pub overflow_add-read : goal.overflow_add-read
overflow_add-read c = let l = c.in-Some.ensures.lookup.0 in record { fits = omega (arith, end_inside c.args.text.now c.args.at _ l.2 _ _ c.first_digits-value.ensures l.0) }

pub slice_bounds-is_plain-end : goal.slice_bounds-is_plain-end
slice_bounds-is_plain-end c = sym (length-take-le _ _ (omega (arith, length_run c.in-Some.rest.now, c.first_digits-value.ensures.1)))

pub returns-then-is_plain : goal.returns-then-is_plain
returns-then-is_plain c = digits_there _ _ _ (c.in-Some.ensures.lookup.0).2 _ _ c.first_digits-value.ensures true (sym c.if-is_plain.true ∙ c.is_plain.ensures)

pub returns-else-is_plain : goal.returns-else-is_plain
returns-else-is_plain c = digits_there _ _ _ (c.in-Some.ensures.lookup.0).2 _ _ c.first_digits-value.ensures false (sym c.if-is_plain.false ∙ c.is_plain.ensures)
