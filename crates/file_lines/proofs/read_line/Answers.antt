-- `file_lines::read_line` meets its contract: the key, a value, and a line feed. Assumes nothing.
use mathlib.Core.Path.{sym, ◌∙◌}
use Prim.Native.Nat.{◌+◌}
use native.Mathlib.Omega.{arith}
use lib.ListN.{length}
use borrow.Author.Rules.{rules}
use Rattle.decimal.proofs.ReadLaws.{ok_read}
use Rattle.file_lines.proofs.ReadLaws.{key_inside, no_key, no_field, read_inside, too_much, one_read}
use Rattle.file_lines.proofs.read_line.Goals as goal

pub returns-then-not-has : goal.returns-then-not-has
returns-then-not-has c = no_key c.args.text.now c.args.key.now c.args.at (sym c.has.ensures ∙ c.if-not-has.true)

pub overflow_add-at : goal.overflow_add-at
overflow_add-at c = record { fits = omega (arith, key_inside c.args.text.now c.args.key.now c.args.at 18446744073709551615 (search rules) (search rules) (sym c.has.ensures ∙ c.if-not-has.false)) }

pub returns-in_err-field : goal.returns-in_err-field
returns-in_err-field c = c.from_residual.ensures ∙ no_field c.args.text.now c.args.key.now c.args.at (sym c.has.ensures ∙ c.if-not-has.false) (ok_read c.args.text.now (c.args.at + length c.args.key.now) c.read.ensures c.ok-read.ensures.value) c.in_err-field.ensures

pub returns-in_err-ok : goal.returns-in_err-ok
returns-in_err-ok c = c.from_residual-in_err-ok.ensures ∙ too_much c.args.text.now c.args.key.now c.args.at (sym c.has.ensures ∙ c.if-not-has.false) (ok_read c.args.text.now (c.args.at + length c.args.key.now) c.read.ensures c.ok-read.ensures.value) c.in_ok-field.ensures _ c.try_from.ensures c.in_err-ok.ensures.value

pub overflow_add-result : goal.overflow_add-result
overflow_add-result c = record { fits = omega (arith, read_inside c.args.text.now c.args.key.now c.args.at (sym c.has.ensures ∙ c.if-not-has.false) (ok_read c.args.text.now (c.args.at + length c.args.key.now) c.read.ensures c.ok-read.ensures.value) c.in_ok-field.ensures) }

pub returns : goal.returns
returns c = one_read c.args.text.now c.args.key.now c.args.at (sym c.has.ensures ∙ c.if-not-has.false) (ok_read c.args.text.now (c.args.at + length c.args.key.now) c.read.ensures c.ok-read.ensures.value) c.in_ok-field.ensures _ c.try_from.ensures c.in_ok-ok.ensures.value
