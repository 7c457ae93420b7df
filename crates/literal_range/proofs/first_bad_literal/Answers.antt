-- `literal_range::first_bad_literal` meets its contract: where no literal is bad, a search finds none. Assumes nothing.
use Rattle.std.proofs.Common.{sym, ◌∙◌}
use Rattle.literal_range.proofs.RangeLaws.{none_bad}
use Rattle.literal_range.proofs.first_bad_literal.Goals as goal

pub returns-else-has_bad_literal : goal.returns-else-has_bad_literal
returns-else-has_bad_literal c = rw (← c.at_most-top.ensures) (none_bad _ _ (sym c.has_bad_literal.ensures ∙ c.if-has_bad_literal.false))
