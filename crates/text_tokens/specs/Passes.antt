-- What `judge_tokens` promises for every text, every place and every V: its whole answer. Assumes nothing.
use Rattle.std.specs.Prelude.{◌≡◌, List, ℕ, length, Ok, Result}
use Rattle.refusal.specs.Said.{giving}
use Rattle.refusal.specs.Rules.{chain}
use Rattle.refusal.specs.declared.Refusal.{Refusal}
use Rattle.cnf.specs.Words.{zeros, closed}
use Rattle.dimacs.specs.Tokens.{Token, words_of}
use Rattle.dimacs.specs.Rules.{token_rules}
use Rattle.text_tokens.specs.declared.Pass.{Pass}

-- good tokens: how many words and clauses they are, and whether the last clause is closed
abbrev pub passed : List Token → Pass
passed ts = record { words = length ts; clauses = zeros (words_of ts); closed = closed (words_of ts) }

-- all tokens: the first refusal that is due, or what they are
abbrev pub pass_of : ℕ → List Token → Result Pass Refusal
pass_of v ts = giving (chain (token_rules v ts)) (passed ts)

-- what it says where they are good
abbrev pub PassedOver : ℕ → List Token → Pass → Type 0
PassedOver v ts p = (chain (token_rules v ts) ≡ Ok tt) × (p.words ≡ length ts) × (p.clauses ≡ zeros (words_of ts)) × (p.closed ≡ closed (words_of ts))
