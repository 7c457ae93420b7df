-- `decimal_pairs::put_digits` meets its contract. Assumes nothing.
use mathlib.Core.Path.{sym}
use native.Mathlib.Omega.{arith}
use Rattle.lists.proofs.BufferLaws.{then, wrote_as, wrote_next}
use Rattle.decimal.specs.Digits.{digits}
use Rattle.decimal.proofs.BytesLaws.{put_wrote}
use Rattle.decimal.proofs.WriterLaws.{length_most}
use Rattle.decimal_pairs.proofs.PairLaws.{digits_last_four}
use Rattle.decimal_pairs.proofs.put_digits.Goals as goal

pub returns-then-n-lt10000 : goal.returns-then-n-lt10000
returns-then-n-lt10000 c = c.put_short.ensures.1

pub returns-then-n-lt100000000 : goal.returns-then-n-lt100000000
returns-then-n-lt100000000 c =
    let f = c.before.before.before in
    let p = f.before.before.before.before in
    let t = p.before.before in
    wrote_next (wrote_as (then p.put_short-count.ensures.1 f.put_four.ensures) (sym (digits_last_four _ t.if-n-lt10000.false (omega arith)))) (omega arith)

pub returns : goal.returns
returns c =
    let w = c.before.before.before in
    let s = w.before.before.before.before.before in
    put_wrote (digits s.args.n) s.args.at _ (omega (arith, s.requires, length_most 9 s.args.n (omega arith) (omega arith))) w.write.ensures
