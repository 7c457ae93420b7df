-- How a lent answer comes to give what is said: it is kept, where it is too short, or its six entries are stored; and which
-- values and refusals have the same six. Assumes nothing.
use mathlib.Core.Path.{◌≡◌, refl, sym, ap, ◌∙◌}
use mathlib.Core.List.{List, [], ◌∷◌}
use mathlib.Core.Logic.{◌⊎◌, inl, inr}
use Prim.Native.Nat.{ℕ, ◌≤◌, ◌<◌}
use native.Mathlib.Omega.{arith}
use lib.ListN.{length, get_or, drop}
use Rattle.std.specs.Prelude.{Result, Ok, Err}
use Rattle.refusal.specs.Said.{Said}
use Rattle.refusal.specs.declared.Refusal.{Refusal}
use Rattle.entries.specs.Answer.{entries, told, Left, Answered}

pub left_short : {B : Type 0} {room : ℕ} {before made : B} → room < 6 → Left room before made before
left_short h = record { short = λ k. refl; long = λ k. absurd (omega (arith, h, k)) }

pub left_long : {B : Type 0} {room : ℕ} {before made after : B} → 6 ≤ room → after ≡ made → Left room before made after
left_long h e = record { short = λ k. absurd (omega (arith, h, k)); long = λ k. e }

-- what is given, said in another way
pub answered_as : {s t : Said} {answer answered : List ℕ} → s ≡ t → Answered t answer answered → Answered s answer answered
answered_as e p = rw e p

-- four values are what stands at their four places
four : (vs : List ℕ) → length vs ≡ 4 → get_or vs 0 0 ∷ get_or vs 1 0 ∷ get_or vs 2 0 ∷ get_or vs 3 0 ∷ [] ≡ vs
four (a ∷ b ∷ c ∷ d ∷ []) h = refl
four (a ∷ b ∷ c ∷ d ∷ e ∷ vs) h = absurd (omega (arith, h))
four (a ∷ b ∷ c ∷ []) h = absurd (omega (arith, h))
four (a ∷ b ∷ []) h = absurd (omega (arith, h))
four (a ∷ []) h = absurd (omega (arith, h))
four [] h = absurd (omega (arith, h))

-- four values or a refusal, twice, with the same six entries: they are the same, or all six are 0
pub told_once : (p q : Result (List ℕ) Refusal) → ((vs : List ℕ) → p ≡ Ok vs → length vs ≡ 4) → ((vs : List ℕ) → q ≡ Ok vs → length vs ≡ 4) → entries (told p) ≡ entries (told q) → (p ≡ q) ⊎ (entries (told p) ≡ 0 ∷ 0 ∷ 0 ∷ 0 ∷ 0 ∷ 0 ∷ [])
told_once (Ok vs) (Ok ws) f g e = inl (ap Ok (sym (four vs (f vs refl)) ∙ ap (drop 2) e ∙ four ws (g ws refl)))
told_once (Ok vs) (Err r) f g e = inr (e ∙ rw (sym (ap (λ (l : List ℕ). get_or l 0 0) e), sym (ap (λ (l : List ℕ). get_or l 1 0) e)))
told_once (Err r) (Ok vs) f g e = inr (rw (ap (λ (l : List ℕ). get_or l 0 0) e, ap (λ (l : List ℕ). get_or l 1 0) e))
told_once (Err r) (Err s) f g e = inl (ap Err (rw (ap (λ (l : List ℕ). get_or l 0 0) e, ap (λ (l : List ℕ). get_or l 1 0) e)))
