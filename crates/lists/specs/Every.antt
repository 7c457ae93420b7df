-- What holds of every entry of a list: by membership, and as a product that a given list computes to. Assumes nothing.
use mathlib.Core.List.{List, [], ◌∷◌, Memᴰ}

abbrev pub Every : {A : Type 0} → (A → Type 0) → List A → Type 0
Every {A} P xs = (x : A) → Memᴰ x xs → P x

abbrev pub Each : {A : Type 0} → (A → Type 0) → List A → Type 0
Each P [] = Unit {0}
Each P (x ∷ xs) = P x × Each P xs
