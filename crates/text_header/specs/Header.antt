-- What `read_header` answers for every text: its promise is an equation, and so allows one answer. Assumes nothing.
use Rattle.std.specs.Prelude.{cond, List, ℕ, Option, Some, None, Ok, Err, Result}
use Rattle.refusal.specs.Rules.{refusal}
use Rattle.refusal.specs.declared.Refusal.{Refusal}
use Rattle.dimacs.specs.Header.{variables_at, clauses_at, is_header, after_header}
use Rattle.dimacs.specs.Rules.{header_start}
use Rattle.text_header.specs.declared.Header.{Header}

-- a header's line at `at`: what it says, and where the tokens begin
abbrev pub header_said : List ℕ → ℕ → Header
header_said text at = record { start = at; variables = (variables_at text at).value; clauses = (clauses_at text at).value; next = after_header text at }

-- that, if one stands there
unfoldable pub header_at : List ℕ → ℕ → Option Header
header_at text at = cond (is_header text at) (Some (header_said text at)) None

-- the answer: that of the line where the comment lines end, or number 17 there
unfoldable pub header_of : List ℕ → Result Header Refusal
header_of text = cond (is_header text (header_start text)) (Ok (header_said text (header_start text))) (Err (refusal 17 (header_start text)))
