-- `text_header::skip_comments` meets its contract: before each turn the comment lines are passed up to i. Assumes nothing.
use Rattle.text_header.proofs.CommentLaws.{Skipping}
use Rattle.text_header.proofs.skip_comments.Given as goal

abbrev pub invariant-loop-i : goal.invariant-loop-i
invariant-loop-i l = Skipping l.text l.i l.inside
