-- A list of rules, and its verdict: the first rule that is due decides. Assumes nothing.
use Rattle.std.specs.Prelude.{List, [], ◌∷◌, ℕ, ltb, Option, Some, None, Ok, Err, Result}
use Rattle.lists.specs.First.{found_if}
use Rattle.refusal.specs.declared.Refusal.{Refusal}

-- what a list of rules says: nothing against, or the first refusal that is due
abbrev pub Verdict : Type 0
Verdict = Result (Unit {0}) Refusal

-- a refusal's number, and the place at which it is due, if at any
pub data Rule : Type 0 where
  rule : ℕ → Option ℕ → Rule

abbrev pub refusal : ℕ → ℕ → Refusal
refusal n p = record { number = n; place = p }

-- refused where the rule is due, and otherwise what the later rules say
abbrev pub ruled : ℕ → Option ℕ → Verdict → Verdict
ruled n (Some p) later = Err (refusal n p)
ruled n None later = later

-- a refusal stands, and where it passed the later verdict decides
abbrev pub and_then : Verdict → Verdict → Verdict
and_then (Ok tt) later = later
and_then (Err r) later = Err r

-- number 7: a lent buffer of `room` entries is too short for the `needed` ones, and these are its place
abbrev pub room_rule : ℕ → ℕ → Rule
room_rule needed room = rule 7 (found_if (ltb room needed) needed)

unfoldable pub chain : List Rule → Verdict
chain [] = Ok tt
chain (rule n due ∷ rules) = ruled n due (chain rules)
