-- `decimal_positive::read_positive` meets its contract: a digit other than 0 leads, or there is no such number. Assumes
-- nothing.
use mathlib.Core.Path.{sym, ◌∙◌}
use Rattle.decimal.proofs.PositiveLaws.{positive_none}
use Rattle.decimal.proofs.ReadLaws.{ok_read}
use Rattle.decimal_positive.proofs.FewLaws.{few_read, many_read}
use Rattle.decimal_positive.proofs.read_positive.Goals as goal

pub returns-then-not-leads : goal.returns-then-not-leads
returns-then-not-leads c = sym (positive_none c.args.text.now c.args.at (sym c.leads.ensures ∙ c.if-not-leads.true))

pub returns : goal.returns
returns c = few_read c.args.text.now c.args.at (sym c.leads.ensures ∙ c.if-not-leads.false) c.in-Some.front.now _ _ c.in-Some.ensures.cases.same c.in-Some-few_digits.ensures

pub returns-2 : goal.returns-2
returns-2 c = ok_read c.args.text.now c.args.at c.read.ensures c.ok.ensures.value ∙ many_read c.args.text.now c.args.at (sym c.leads.ensures ∙ c.if-not-leads.false)
