-- `text_header::read_header` meets its contract: the comment lines, and the header's line after them. Assumes nothing.
use mathlib.Core.Path.{◌∙◌}
use Rattle.text_header.proofs.HeaderLaws.{header_or_17}
use Rattle.text_header.proofs.read_header.Goals as goal

pub returns : goal.returns
returns c = rw c.header_at.ensures at c.ok_or.ensures.value ∙ header_or_17 _ _ c.skip_comments-start.ensures
