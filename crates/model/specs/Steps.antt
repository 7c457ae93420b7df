-- What the functions below `read_model` promise for every input: the one that reads each option's value from the marks, and
-- the one that writes the build. Assumes nothing.
use Rattle.std.specs.Prelude.{Bool, ◌||◌, List, [], ◌∷◌, ℕ, ◌+◌, ltb, length, Option, Some, None, Ok, Err, Result}
use Rattle.lists.specs.First.{first}
use Rattle.lists.specs.Buffer.{over}
use Rattle.refusal.specs.Rules.{Verdict, rule, room_rule, and_then, chain}
use Rattle.refusal.specs.Said.{leaving, giving}
use Rattle.refusal.specs.declared.Refusal.{Refusal}
use Rattle.diagram.specs.Lent.{Lent, options, domain}
use Rattle.diagram.specs.Numbers.{first_value}
use Rattle.naming.specs.Marks.{marked_true}
use Rattle.model.specs.Rules.{unclear, values_to}
use Rattle.model.specs.declared.ModelRead.TheVariants.{Built, Refused}
use Rattle.model.specs.declared.ModelAnswer.{ModelAnswer}

-- number 7, for a lent list of `room` entries, where `needed` have to fit in
abbrev pub room_verdict : ℕ → ℕ → Verdict
room_verdict needed room = chain (room_rule needed room ∷ [])

-- how many a search passed: those before what it found, or all n
abbrev pub passed_over : Option ℕ → ℕ → ℕ
passed_over (Some i) n = i
passed_over None n = n

-- ---- the options' values, from marks for the value variables, the first variable's first

module _ (d : Lent) (marks : List ℕ) where
  -- option i has a value without a mark, or has not exactly one that is marked true
  unfoldable pub unread : ℕ → Bool
  unread i = ltb (length marks) (first_value d i + domain d i) || unclear d (marked_true marks) i

  abbrev pub first_unread : Option ℕ
  first_unread = first unread (options d)

  -- number 7, for a lent build of `room` entries, and number 12
  abbrev pub values_verdict : ℕ → Verdict
  values_verdict room = and_then (room_verdict (options d) room) (chain (rule 12 first_unread ∷ []))

  -- the lent build afterwards: over its front the values of the options before the first that is refused
  abbrev pub values_after : List ℕ → List ℕ
  values_after before = leaving (room_verdict (options d) (length before)) (over (values_to d (marked_true marks) (passed_over first_unread (options d))) before) before

-- ---- the build goes out: number 7, or the number of values; and the lent list afterwards

abbrev pub write_result : List ℕ → List ℕ → Result ℕ Refusal
write_result build before = giving (room_verdict (length build) (length before)) (length build)

abbrev pub write_after : List ℕ → List ℕ → List ℕ
write_after build before = leaving (room_verdict (length build) (length before)) (over build before) before

-- the answer of a build that is read: the refusal, or the number of values
abbrev pub answer_of : Result ℕ Refusal → ModelAnswer
answer_of (Ok n) = record { outcome = Built n }
answer_of (Err r) = record { outcome = Refused r }
