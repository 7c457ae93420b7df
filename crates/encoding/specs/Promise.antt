-- What `encode` promises for every input: its whole answer, and what the lent buffer holds afterwards. Assumes nothing.
use Rattle.std.specs.Prelude.{◌≡◌, List, [], ◌∷◌, ◌++◌, ℕ, length, ℤ}
use Rattle.refusal.specs.Rules.{Rule, room_rule}
use Rattle.refusal.specs.Table.{Row, room_row}
use Rattle.cnf.specs.Clause.{words}
use Rattle.cnf.specs.Encoded.{EncodedBy, encoded_one_outcome}
use Rattle.cnf.specs.declared.EncodeAnswer.{EncodeAnswer}
use Rattle.diagram.specs.Lent.{Lent}
use Rattle.diagram.specs.Sound.{check_table}
use Rattle.diagram.specs.Rules.{check_rules}
use Rattle.clauses.specs.Clauses.{Edition, clauses, last_variable}

module _ (e : Edition) (d : Lent) where
  -- the length needed
  abbrev pub needed : ℕ
  needed = length (words (clauses e d))

  module _ (room : ℕ) where
    -- numbers 1 to 7, with their places
    abbrev pub encode_table : List Row
    encode_table = check_table d ++ (room_row needed room ∷ [])

    -- the same as tests that compute
    unfoldable pub encode_rules : List Rule
    encode_rules = check_rules d ++ (room_rule needed room ∷ [])

  -- the answer is the first refusal that is due, and the buffer is kept; or else the words of the diagram's clauses stand
  -- at the buffer's front, the rest of it is kept, and the answer gives words, clauses and V
  abbrev pub EncodePromise : List ℤ → EncodeAnswer → List ℤ → Type 0
  EncodePromise before = EncodedBy (encode_rules (length before)) (clauses e d) (last_variable e d) before

-- any two outcomes that the promise allows are equal: the answers, and what the buffer holds
pub encode_one_outcome : (e : Edition) (d : Lent) (before : List ℤ) (a b : EncodeAnswer) (after after' : List ℤ) → EncodePromise e d before a after → EncodePromise e d before b after' → (a ≡ b) × (after ≡ after')
encode_one_outcome e d before = encoded_one_outcome _ _ _ before
