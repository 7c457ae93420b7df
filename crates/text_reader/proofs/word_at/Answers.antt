-- `text_reader::word_at` meets its contract: the token is good, so its number is small. Assumes nothing.
use mathlib.Core.Path.{sym, ◌∙◌}
use Prim.Native.Nat.{◌+◌, ◌≤◌, ◌<◌, ◌^◌}
use native.Mathlib.Omega.{arith}
use Rattle.lists.proofs.SignedLaws.{as_word, fits_less, minus_back}
use Rattle.decimal.specs.declared.Reading.{Reading}
use Rattle.decimal.proofs.ReadLaws.{ok_read}
use Rattle.text_reader.proofs.WordLaws.{minus_read, plain_read}
use Rattle.text_reader.proofs.word_at.Goals as goal

small : (r : Reading) → r.value ≤ 1000000 → r.value < 2 ^ 31
small r h = omega (arith, h)

pub unwrap-read-requires : goal.unwrap-read-requires
unwrap-read-requires c = (minus_read {text = c.args.text.now} c.requires c.if-text-at-eq45.true (ok_read c.args.text.now (c.args.at + 1) c.read.ensures c.ok.ensures.value)).some

pub overflow_cast-result : goal.overflow_cast-result
overflow_cast-result c = let w = (minus_read {text = c.args.text.now} c.requires c.if-text-at-eq45.true (ok_read c.args.text.now (c.args.at + 1) c.read.ensures c.ok.ensures.value)).word c.unwrap-read.ensures in record { sfits = omega (arith, w.small) }

pub overflow_sub-result : goal.overflow_sub-result
overflow_sub-result c = let w = (minus_read {text = c.args.text.now} c.requires c.if-text-at-eq45.true (ok_read c.args.text.now (c.args.at + 1) c.read.ensures c.ok.ensures.value)).word c.unwrap-read.ensures in fits_less _ (small c.unwrap-read.result w.small)

pub returns-then-text-at-eq45 : goal.returns-then-text-at-eq45
returns-then-text-at-eq45 c = let w = (minus_read {text = c.args.text.now} c.requires c.if-text-at-eq45.true (ok_read c.args.text.now (c.args.at + 1) c.read.ensures c.ok.ensures.value)).word c.unwrap-read.ensures in (minus_back _ (small c.unwrap-read.result w.small) ∙ sym w.says_word, w.ends_word)

pub unwrap-read-requires-2 : goal.unwrap-read-requires-2
unwrap-read-requires-2 c = (plain_read {text = c.args.text.now} c.requires c.if-text-at-eq45.false (ok_read c.args.text.now c.args.at c.read-2.ensures c.ok-2.ensures.value)).some

pub overflow_cast-result-2 : goal.overflow_cast-result-2
overflow_cast-result-2 c = let w = (plain_read {text = c.args.text.now} c.requires c.if-text-at-eq45.false (ok_read c.args.text.now c.args.at c.read-2.ensures c.ok-2.ensures.value)).word c.unwrap-read-2.ensures in record { sfits = omega (arith, w.small) }

pub returns : goal.returns
returns c = let w = (plain_read {text = c.args.text.now} c.requires c.if-text-at-eq45.false (ok_read c.args.text.now c.args.at c.read-2.ensures c.ok-2.ensures.value)).word c.unwrap-read-2.ensures in (as_word _ (small c.unwrap-read-2.result w.small) ∙ sym w.says_word, w.ends_word)
