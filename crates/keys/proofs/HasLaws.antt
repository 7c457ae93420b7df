-- Laws of bytes at a place of a text, as std compares them. Assumes nothing.
use mathlib.Core.Path.{◌≡◌, refl, sym, ap, ◌∙◌}
use mathlib.Core.Logic.{inl, inr}
use mathlib.Core.Bool.{Bool, true, false}
use mathlib.Core.List.{List, [], ◌∷◌}
use Prim.Native.Nat.{ℕ}
use native.Mathlib.Omega.{arith}
use lib.Dec.{eqb}
use lib.ListN.{length, drop, drop_of_length-le}
use borrow.Author.Tests.{eq-eqb, ne_eqb, eqb-true, eqb-false}
use denote.Ref.{Bor}
use Rattle.std.specs.Prelude.{Option, Some, None, unwrap_or}
use Rattle.std.specs.List as std
use Rattle.std.specs.List.{PartBy}
use Rattle.decimal.specs.Bytes.{starts_with, has_at}
use Rattle.decimal.proofs.BytesLaws.{rest_at}

-- what is left of a text from `at` on, as code takes it, or nothing past the text's end
left : (text : List ℕ) (at : ℕ) (got : Option (Bor (List ℕ))) (none : Bor (List ℕ)) → none.now ≡ [] → PartBy (λ (x : Bor (List ℕ)). x.now) text at (length text) got → (unwrap_or got none).now ≡ drop at text
left text at (Some x) none e g = g.0.2 ∙ rest_at text at
left text at None none e g = e ∙ sym (drop_of_length-le text (elim g.0 [ inl h ↦ omega arith | inr h ↦ omega arith ]))

turned : (a b : ℕ) → eqb a b ≡ eqb b a
turned a b = go (eqb a b) refl
  where
    go : (t : Bool) → eqb a b ≡ t → t ≡ eqb b a
    go true e = sym (eq-eqb b a (sym (eqb-true a b e)))
    go false e = sym (ne_eqb b a (λ h. eqb-false a b e (sym h)))

starts_same : (key s : List ℕ) → std.starts_with eqb s key ≡ starts_with key s
unfolding starts_with
starts_same [] s = refl
starts_same (k ∷ key) [] = refl
starts_same (k ∷ key) (b ∷ s) = rw (starts_same key s, turned k b)

pub has_same : (text : List ℕ) (at : ℕ) (key : List ℕ) (got : Option (Bor (List ℕ))) (none : Bor (List ℕ)) → none.now ≡ [] → PartBy (λ (x : Bor (List ℕ)). x.now) text at (length text) got → std.starts_with eqb (unwrap_or got none).now key ≡ has_at text at key
has_same text at key got none e g = starts_same key (unwrap_or got none).now ∙ ap (starts_with key) (left text at got none e g)
