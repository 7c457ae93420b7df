-- `decimal_pairs::put_short` meets its contract. Assumes nothing.
use mathlib.Core.Path.{sym, ◌∙◌}
use native.Mathlib.Omega.{arith}
use lib.ListN.{length-set}
use borrow.Author.Rules.{rules}
use Rattle.lists.proofs.BufferLaws.{put, then, wrote_as, wrote_next, kept}
use Rattle.decimal.proofs.DigitsLaws.{digits_small}
use Rattle.decimal_pairs.proofs.PairLaws.{digits_pair, digits_three, digits_four}
use Rattle.decimal_pairs.proofs.put_short.Goals as goal

pub returns-then-n-lt10 : goal.returns-then-n-lt10
returns-then-n-lt10 c = (omega arith, wrote_as (put _ _ _) (sym (digits_small _ c.if-n-lt10.true)))

pub returns-then-n-lt100 : goal.returns-then-n-lt100
returns-then-n-lt100 c = let p = c.before.before.before in let t = p.before.before in (omega arith, wrote_as p.put_pair.ensures (sym (digits_pair _ t.if-n-lt10.false t.if-n-lt100.true)))

pub put_pair-requires-then-n-lt1000 : goal.put_pair-requires-then-n-lt1000
put_pair-requires-then-n-lt1000 c = (search rules, simp length-set (omega arith))

pub shape_of-out-then-n-lt1000 : goal.shape_of-out-then-n-lt1000
shape_of-out-then-n-lt1000 c = kept c.put_pair-then-n-lt1000.ensures ∙ simp length-set

pub returns-then-n-lt1000 : goal.returns-then-n-lt1000
returns-then-n-lt1000 c =
    let p = c.before.before.before in
    let t = p.before.before in
    (omega arith, wrote_next (wrote_as (then (put _ _ _) p.put_pair-then-n-lt1000.ensures) (sym (digits_three _ t.if-n-lt100.false t.if-n-lt1000.true))) (omega arith))

pub returns : goal.returns
returns c = let p = c.before.before.before in let t = p.before.before in (omega arith, wrote_as p.put_four.ensures (sym (digits_four _ t.if-n-lt1000.false t.requires.0)))
