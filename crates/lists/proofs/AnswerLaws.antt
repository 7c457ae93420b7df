-- A promise that gives the answer by an equation allows one answer. Assumes nothing.
use mathlib.Core.Path.{◌≡◌, sym, ◌∙◌}

pub one_answer : {A : Type 0} {said a b : A} → a ≡ said → b ≡ said → a ≡ b
one_answer p q = p ∙ sym q
