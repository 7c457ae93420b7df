-- What `measure_words` promises for every V and every word list: its whole answer. Assumes nothing.
use Rattle.std.specs.Prelude.{◌≡◌, List, ℕ, ℤ, length, Ok, Result}
use Rattle.refusal.specs.Said.{giving}
use Rattle.refusal.specs.Rules.{chain}
use Rattle.refusal.specs.declared.Refusal.{Refusal}
use Rattle.cnf.specs.Words.{zeros}
use Rattle.cnf.specs.Lent.{word_rules}
use Rattle.dimacs.specs.Text.{text_of}
use Rattle.text_words.specs.declared.Measure.{Measure}

-- a good word list: how many clauses it is, and how many bytes its text has
abbrev pub measured : ℕ → List ℤ → Measure
measured v ws = record { clauses = zeros ws; size = length (text_of v ws) }

-- the first refusal that is due, or what it measures
abbrev pub measure_of : ℕ → List ℤ → Result Measure Refusal
measure_of v ws = giving (chain (word_rules v ws)) (measured v ws)

-- what it says where the words are good
abbrev pub WordsMeasured : ℕ → List ℤ → Measure → Type 0
WordsMeasured v ws m = (chain (word_rules v ws) ≡ Ok tt) × (m.clauses ≡ zeros ws) × (m.size ≡ length (text_of v ws))
