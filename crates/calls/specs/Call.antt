-- What a call through the C interface leaves in the lent answer and in a lent buffer. Assumes nothing.
use Rattle.std.specs.Prelude.{◌≡◌, List, ℕ, length}
use Rattle.lists.specs.Buffer.{over}
use Rattle.refusal.specs.Rules.{Rule, chain}
use Rattle.refusal.specs.Said.{Said, saying, leaving}
use Rattle.entries.specs.Answer.{entries, Left, Answered, left_once}

-- the entries of what is said stand at the answer's front, and the rest of it is kept
abbrev pub Gives : Said → List ℕ → List ℕ → Type 0
Gives s answer answered = answered ≡ over (entries s) answer

-- the answer gives the first refusal that is due, and the buffer is kept; or else it gives the result's values, and the
-- buffer holds what is written
pub record Called {B : Type 0} (rules : List Rule) (values : List ℕ) (written before : B) (answer : List ℕ) (after : B) (answered : List ℕ) : Type 0 where
  pub answers : Answered (saying (chain rules) values) answer answered
  pub buffer : Left (length answer) before (leaving (chain rules) written before) after

-- any two outcomes are equal
pub called_once : {B : Type 0} {rules : List Rule} {values : List ℕ} {written before : B} {answer : List ℕ} {after after' : B} {answered answered' : List ℕ}
    → Called rules values written before answer after answered → Called rules values written before answer after' answered' → (after ≡ after') × (answered ≡ answered')
called_once p q = (left_once p.buffer q.buffer, left_once p.answers q.answers)
