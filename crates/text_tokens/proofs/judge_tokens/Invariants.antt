-- `text_tokens::judge_tokens` meets its contract: before each turn the tokens up to i are good, and counted. Assumes
-- nothing.
use Prim.Native.Nat.{◌-◌}
use lib.ListN.{length}
use Rattle.text_tokens.proofs.CountLaws.{Counting}
use Rattle.text_tokens.proofs.judge_tokens.Given as goal

abbrev pub invariant-loop-i : goal.invariant-loop-i
invariant-loop-i l = Counting l.variables l.text l.from l.i l.pass.words l.pass.clauses l.pass.closed

abbrev pub decreases-loop-i : goal.decreases-loop-i
decreases-loop-i l = length l.text - l.i
