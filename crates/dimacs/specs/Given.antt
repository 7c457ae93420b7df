-- What a function answers that gives something where its rules pass, and may write into a lent buffer. Assumes nothing.
use Rattle.std.specs.Prelude.{◌≡◌, List, Result}
use Rattle.refusal.specs.Rules.{Rule, chain}
use Rattle.refusal.specs.Said.{giving, leaving}
use Rattle.refusal.specs.declared.Refusal.{Refusal}

-- the first refusal of the rules that is due, and the buffer is kept; or else what is given, and the buffer holds what is
-- written
pub record GivenBy {A B : Type 0} (rules : List Rule) (given : A) (written before : B) (answer : Result A Refusal) (after : B) : Type 0 where
  pub gives : answer ≡ giving (chain rules) given
  pub leaves : after ≡ leaving (chain rules) written before
