-- `text_header::skip_comments` meets its contract: before each turn the comment lines are passed up to i. Assumes nothing.
use mathlib.Core.Path.{◌≡◌, ◌∙◌}
use native.Mathlib.Omega.{arith}
use lib.ListN.{length}
use Rattle.text_header.proofs.CommentLaws.{skipping_on, skipping_new, skipping_stop, skipping_all}
use Rattle.text_header.proofs.skip_comments.Goals as goal
use Rattle.text_header.proofs.skip_comments.Goals.{then-inside, else-inside+then-b-eq99}

pub returns-else-b-eq99 : goal.returns-else-b-eq99
returns-else-b-eq99 c = skipping_stop _ _ c.loop-i.invariant c.loop-i-test.true c.if-inside.false c.if-b-eq99.false

pub loop-i-preserved : goal.loop-i-preserved
loop-i-preserved c = elim c.if-inside.branch [
  | then-inside w ↦ rw w.inside-is (skipping_on _ _ c.loop-i.invariant c.loop-i-test.true w.if-inside.true)
  | else-inside+then-b-eq99 w ↦ rw w.inside-is (skipping_new _ _ c.loop-i.invariant c.loop-i-test.true w.if-inside.false w.if-b-eq99.true)
]

pub returns : goal.returns
returns c = let e : length c.args.text.now ≡ c.loop-i.i = omega arith in e ∙ skipping_all _ _ c.loop-i.invariant c.loop-i-test.false
