-- What each function of the C interface promises for every input: what its answer holds afterwards, and what the lent
-- buffer holds. A result gives words, clauses and V; 1 for allowed and 0 for not allowed; n; or bytes. Assumes nothing.
use Rattle.std.specs.Prelude.{◌≡◌, cond, List, [], ◌∷◌, ℕ, ℤ, length}
use Rattle.lists.specs.Buffer.{over}
use Rattle.refusal.specs.Rules.{chain}
use Rattle.refusal.specs.Said.{saying}
use Rattle.cnf.specs.Clause.{words}
use Rattle.cnf.specs.Encoded.{tally_said, tally_of}
use Rattle.diagram.specs.Lent.{Lent, options}
use Rattle.diagram.specs.Rules.{check_rules}
use Rattle.judge.specs.Build.{judge_rules}
use Rattle.judge.specs.Promise.{allows_test}
use Rattle.clauses.specs.Clauses.{edition1, clauses, last_variable}
use Rattle.encoding.specs.Promise.{encode_rules}
use Rattle.model.specs.Rules.{build_of, model_rules}
use Rattle.dimacs.specs.Text.{text_of}
use Rattle.dimacs.specs.Write.{write_rules}
use Rattle.dimacs.specs.Rules.{read_rules, text_words, header_variables}
use Rattle.dimacs.specs.Read.{tally_read}
use Rattle.entries.specs.Answer.{Answered, left_once}
use Rattle.calls.specs.Call.{Called, called_once}

module _ (d : Lent) where
  -- numbers 1 to 6, and no values
  abbrev pub CheckCall : List ℕ → List ℕ → Type 0
  CheckCall = Answered (saying (chain (check_rules d)) [])

  -- numbers 1 to 6, 8 and 9, and whether the diagram allows the build
  abbrev pub JudgeCall : List ℕ → List ℕ → List ℕ → Type 0
  JudgeCall build = Answered (saying (chain (judge_rules d build)) (cond (allows_test d build) 1 0 ∷ []))

  -- numbers 1 to 7, and the words of the diagram's clauses with their counts and V
  abbrev pub EncodeCall : List ℤ → List ℕ → List ℤ → List ℕ → Type 0
  EncodeCall before = Called (encode_rules edition1 d (length before)) (tally_said (tally_of (clauses edition1 d) (last_variable edition1 d))) (over (words (clauses edition1 d)) before) before

  -- numbers 1 to 7 and 10 to 13, and the build that the model says with its length
  abbrev pub ModelCall : List ℤ → List ℕ → List ℕ → List ℕ → List ℕ → Type 0
  ModelCall m before = Called (model_rules d m edition1 (length before)) (options d ∷ []) (over (build_of d m) before) before

-- numbers 16, 14, 15 and 7, and the text of the words with its length
abbrev pub WriteCall : ℕ → List ℤ → List ℕ → List ℕ → List ℕ → List ℕ → Type 0
WriteCall v ws before = Called (write_rules v ws (length before)) (length (text_of v ws) ∷ []) (over (text_of v ws) before) before

-- numbers 17, 16, 18, 14, 15, 19 and 7, and the words of the text with their counts and the header's V
abbrev pub ReadCall : List ℕ → List ℤ → List ℕ → List ℤ → List ℕ → Type 0
ReadCall text before = Called (read_rules text (length before)) (tally_said (tally_read (text_words text) (header_variables text))) (over (text_words text) before) before

-- ---- any two outcomes that a promise allows are equal: what the buffer holds, and the answer

module _ (d : Lent) where
  pub check_call_once : (answer answered answered' : List ℕ) → CheckCall d answer answered → CheckCall d answer answered' → answered ≡ answered'
  check_call_once answer answered answered' = left_once

  pub judge_call_once : (build answer answered answered' : List ℕ) → JudgeCall d build answer answered → JudgeCall d build answer answered' → answered ≡ answered'
  judge_call_once build answer answered answered' = left_once

  pub encode_call_once : (before : List ℤ) (answer : List ℕ) (after after' : List ℤ) (answered answered' : List ℕ) → EncodeCall d before answer after answered → EncodeCall d before answer after' answered' → (after ≡ after') × (answered ≡ answered')
  encode_call_once before answer after after' answered answered' = called_once

  pub model_call_once : (m : List ℤ) (before answer after after' answered answered' : List ℕ) → ModelCall d m before answer after answered → ModelCall d m before answer after' answered' → (after ≡ after') × (answered ≡ answered')
  model_call_once m before answer after after' answered answered' = called_once

pub write_call_once : (v : ℕ) (ws : List ℤ) (before answer after after' answered answered' : List ℕ) → WriteCall v ws before answer after answered → WriteCall v ws before answer after' answered' → (after ≡ after') × (answered ≡ answered')
write_call_once v ws before answer after after' answered answered' = called_once

pub read_call_once : (text : List ℕ) (before : List ℤ) (answer : List ℕ) (after after' : List ℤ) (answered answered' : List ℕ) → ReadCall text before answer after answered → ReadCall text before answer after' answered' → (after ≡ after') × (answered ≡ answered')
read_call_once text before answer after after' answered answered' = called_once
