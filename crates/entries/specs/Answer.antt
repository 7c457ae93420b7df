-- What stands in a lent answer after a call through the C interface. Assumes nothing.
use Rattle.std.specs.Prelude.{◌≡◌, true, false, ◌⊎◌, List, [], ◌∷◌, ℕ, ◌≤◌, ◌<◌, ltb, length, get_or, Result, Ok, Err}
use Rattle.std.proofs.Common.{sym, ◌∙◌, inl, inr, ltb-true, ltb-false}
use Rattle.lists.specs.Buffer.{over}
use Rattle.lists.proofs.UptoLaws.{decide}
use Rattle.refusal.specs.Said.{Said, refused, result_of}
use Rattle.refusal.specs.declared.Refusal.{Refusal}

-- the six entries of an answer: the number, the place, and four for the result's values, 0 where there is none
abbrev pub entries : Said → List ℕ
entries s = s.number ∷ s.place ∷ get_or s.values 0 0 ∷ get_or s.values 1 0 ∷ get_or s.values 2 0 ∷ get_or s.values 3 0 ∷ []

-- what is said by a refusal, or by a result's values
abbrev pub told : Result (List ℕ) Refusal → Said
told (Ok vs) = result_of vs
told (Err r) = refused r

-- what is said, without the values
abbrev pub silent : Said → Said
silent s = record { number = s.number; place = s.place; values = [] }

-- what is lent with an answer of `room` entries: kept where these are fewer than six, and otherwise what the call makes of it
pub record Left {B : Type 0} (room : ℕ) (before made after : B) : Type 0 where
  pub short : room < 6 → after ≡ before
  pub long : 6 ≤ room → after ≡ made

-- entries stand at the answer's front, where it has room for them, and the rest of it is kept
abbrev pub Posted : List ℕ → List ℕ → List ℕ → Type 0
Posted es answer answered = Left (length answer) answer (over es answer) answered

-- the answer gives what is said, where it has room for it
abbrev pub Answered : Said → List ℕ → List ℕ → Type 0
Answered said = Posted (entries said)

one_left : {B : Type 0} (room : ℕ) (before made after after' : B) → (ltb room 6 ≡ true) ⊎ (ltb room 6 ≡ false) → Left room before made after → Left room before made after' → after ≡ after'
one_left room before made after after' (inl e) p q = p.short (ltb-true room 6 e) ∙ sym (q.short (ltb-true room 6 e))
one_left room before made after after' (inr e) p q = p.long (ltb-false room 6 e) ∙ sym (q.long (ltb-false room 6 e))

-- any two outcomes are equal
pub left_once : {B : Type 0} {room : ℕ} {before made after after' : B} → Left room before made after → Left room before made after' → after ≡ after'
left_once {room = room} = one_left room _ _ _ _ (decide (ltb room 6))

pub answered_one_outcome : (said : Said) (answer answered answered' : List ℕ) → Answered said answer answered → Answered said answer answered' → answered ≡ answered'
answered_one_outcome said answer answered answered' = left_once
