-- `text_header::header_at` meets its contract: the six bytes; then V and a space, the clause count and a line feed. Assumes
-- nothing.
use mathlib.Core.Path.{sym, ◌∙◌}
use Prim.Native.Nat.{◌+◌}
use native.Mathlib.Omega.{arith}
use Rattle.decimal.proofs.BytesLaws.{has_inside}
use Rattle.decimal.proofs.FieldLaws.{field_found}
use Rattle.decimal.proofs.ReadLaws.{ok_read}
use Rattle.text_header.proofs.HeaderLaws.{no_head, no_variables, no_clauses, all_parts}
use Rattle.text_header.proofs.header_at.Goals as goal

pub returns-then-not-has : goal.returns-then-not-has
returns-then-not-has c = sym (no_head _ _ (sym c.has.ensures ∙ c.if-not-has.true))

pub overflow_add-start : goal.overflow_add-start
overflow_add-start c = record { fits = omega (arith, has_inside c.args.text.now c.args.start 112 _ (sym c.has.ensures ∙ c.if-not-has.false)) }

pub returns-in_err-variables : goal.returns-in_err-variables
returns-in_err-variables c = c.from_residual.ensures ∙ sym (no_variables _ _ (sym c.has.ensures ∙ c.if-not-has.false) (ok_read c.args.text.now (c.args.start + 6) c.read.ensures c.ok-read.ensures.value) (sym c.in_err-variables.was ∙ c.field.ensures))

pub overflow_add-variables : goal.overflow_add-variables
overflow_add-variables c = record { fits = omega (arith, (field_found c.args.text.now _ 32 (ok_read c.args.text.now (c.args.start + 6) c.read.ensures c.ok-read.ensures.value) (sym c.in_ok-variables.was ∙ c.field.ensures)).inside) }

pub returns-in_err-clauses : goal.returns-in_err-clauses
returns-in_err-clauses c =
    c.from_residual-in_err-clauses.ensures
    ∙ sym (no_clauses _ _ (sym c.has.ensures ∙ c.if-not-has.false) (ok_read c.args.text.now (c.args.start + 6) c.read.ensures c.ok-read.ensures.value) (sym c.in_ok-variables.was ∙ c.field.ensures) (ok_read c.args.text.now (c.in_ok-variables.variables.end + 1) c.read-2.ensures c.ok-read-2.ensures.value) (sym c.in_err-clauses.was ∙ c.field-2.ensures))

pub overflow_add-result : goal.overflow_add-result
overflow_add-result c = record { fits = omega (arith, (field_found c.args.text.now _ 10 (ok_read c.args.text.now (c.in_ok-variables.variables.end + 1) c.read-2.ensures c.ok-read-2.ensures.value) (sym c.in_ok-clauses.was ∙ c.field-2.ensures)).inside) }

pub returns : goal.returns
returns c = all_parts _ _ (sym c.has.ensures ∙ c.if-not-has.false) (ok_read c.args.text.now (c.args.start + 6) c.read.ensures c.ok-read.ensures.value) (sym c.in_ok-variables.was ∙ c.field.ensures) (ok_read c.args.text.now (c.in_ok-variables.variables.end + 1) c.read-2.ensures c.ok-read-2.ensures.value) (sym c.in_ok-clauses.was ∙ c.field-2.ensures)
