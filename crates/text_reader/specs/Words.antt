-- What the parts of reading say of words: internal, for their contracts. Assumes nothing.
use Rattle.std.specs.Prelude.{◌≡◌, false, List, ℕ, ◌<◌, ℤ, length, get_or, Result}
use Rattle.lists.specs.Buffer.{over}
use Rattle.refusal.specs.Rules.{Rule}
use Rattle.refusal.specs.declared.Refusal.{Refusal}
use Rattle.cnf.specs.Words.{zeros, closed}
use Rattle.cnf.specs.declared.Tally.{Tally}
use Rattle.dimacs.specs.Tokens.{is_gap}
use Rattle.dimacs.specs.Rules.{tokens_from}
use Rattle.dimacs.specs.Given.{GivenBy}
use Rattle.dimacs.specs.Read.{tally_read}
use Rattle.text_tokens.specs.declared.Pass.{Pass}

-- the same tokens stand from i on as from `at` on, and no separator at i
pub record Past (text : List ℕ) (at i : ℕ) : Type 0 where
  pub same : tokens_from text at ≡ tokens_from text i
  pub begins : i < length text → is_gap (get_or text i 0) ≡ false

-- a pass has counted the words
pub record Counted (ws : List ℤ) (p : Pass) : Type 0 where
  pub words : p.words ≡ length ws
  pub clauses : p.clauses ≡ zeros ws
  pub ends : p.closed ≡ closed ws

-- the first refusal of the rules that is due, and the list is kept; or else the words stand at its front, and are counted
abbrev pub GivesWords : List Rule → List ℤ → ℕ → List ℤ → Result Tally Refusal → List ℤ → Type 0
GivesWords rules ws v before = GivenBy rules (tally_read ws v) (over ws before) before
