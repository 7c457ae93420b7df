-- What a function promises that answers by a list of rules and writes into a lent buffer, whatever its answer and its buffer
-- are: its whole answer, and what the buffer holds afterwards. Assumes nothing.
use Rattle.std.specs.Prelude.{◌≡◌, List, ℕ}
use Rattle.std.proofs.Common.{sym, ◌∙◌}
use Rattle.refusal.specs.Rules.{Rule, chain}
use Rattle.refusal.specs.Said.{Said, saying, leaving}

-- the answer says the first refusal that is due, and the buffer is kept; or else it says the result's values, and the buffer
-- holds what is written
pub record AnsweredBy {A B : Type 0} (said : A → Said) (rules : List Rule) (values : List ℕ) (written before : B) (answer : A) (after : B) : Type 0 where
  pub says : said answer ≡ saying (chain rules) values
  pub buffer : after ≡ leaving (chain rules) written before

-- where no two answers say the same, any two outcomes are equal: the answers, and what the buffer holds
pub answered_once : {A B : Type 0} {said : A → Said} → ((a b : A) → said a ≡ said b → a ≡ b) → {rules : List Rule} {values : List ℕ} {written before : B} {a b : A} {after after' : B}
    → AnsweredBy said rules values written before a after → AnsweredBy said rules values written before b after' → (a ≡ b) × (after ≡ after')
answered_once once {a = a} {b = b} p q = (once a b (p.says ∙ sym q.says), p.buffer ∙ sym q.buffer)
