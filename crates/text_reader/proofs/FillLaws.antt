-- Laws of the second pass: the words of the tokens up to a place stand at the front of the lent list. Assumes nothing.
use Rattle.std.specs.Prelude.{Ok}
use mathlib.Core.Path.{◌≡◌, refl, sym, ap, ◌∙◌}
use mathlib.Core.Logic.{◌⊎◌, inl, inr}
use mathlib.Core.Bool.{false}
use mathlib.Core.List.Memᴰ
use mathlib.Core.List.{List, [], ◌∷◌, ◌++◌, append-nil}
use Prim.Native.Nat.{ℕ, ◌+◌, ◌≤◌, ◌<◌}
use native.Mathlib.Omega.{arith}
use lib.IntN.{ℤ}
use lib.ListN.{length, length-append, get_or, drop, set}
use Rattle.lists.specs.Buffer.{Wrote}
use Rattle.lists.proofs.UptoLaws.{below_or_not}
use Rattle.lists.proofs.BufferLaws.{none, put, then, wrote_as}
use Rattle.refusal.specs.Rules.{chain}
use Rattle.dimacs.specs.Tokens.{is_gap, lead, Token, word_of, Good, words_of}
use Rattle.dimacs.specs.Rules.{token_rules, tokens_from}
use Rattle.dimacs.proofs.ReadTable.{tokens_good}
use Rattle.text_reader.specs.Words.{Past}
use Rattle.dimacs.proofs.PassLaws.{words_of_append, Behind, over_none, over_more, over_all, ahead}

nothing : (ts : List Token) → length ts ≡ 0 → ts ≡ []
nothing [] h = refl
nothing (t ∷ ts) h = absurd (omega arith)

-- k words stand at the front of the lent list
pub record Filling (v : ℕ) (text : List ℕ) (from : ℕ) (lent : List ℤ) (i k : ℕ) (list : List ℤ) : Type 0 where
  pub over : Behind v text from i
  pub words : k ≡ length over.done
  pub wrote : Wrote lent 0 (words_of over.done) list k

module _ (v : ℕ) (text : List ℕ) (from : ℕ) (lent : List ℤ) where
  pub filling_none : Filling v text from lent from 0 lent
  unfolding words_of over_none
  filling_none = record { over = over_none v text from; words = refl; wrote = none lent 0 }

  module _ (i k : ℕ) (list : List ℤ) (f : Filling v text from lent i k list) where
    -- where words are left, the text goes on
    pub filling_inside : k < length (tokens_from text from) → i < length text
    filling_inside h = go (below_or_not i (length text))
      where
        go : (i < length text) ⊎ (length text ≤ i) → i < length text
        go (inl l) = l
        go (inr l) = absurd (omega (arith, h, f.words, ap length (over_all v text from i f.over l)))

    pub filling_past : (p : ℕ) → tokens_from text i ≡ tokens_from text p → Filling v text from lent p k list
    filling_past p e = record { over = record { done = f.over.done; split = f.over.split ∙ ap (λ (ts : List Token). f.over.done ++ ts) e; passed = f.over.passed }; words = f.words; wrote = f.wrote }

    module _ (h : i < length text) (g : is_gap (get_or text i 0) ≡ false) where
      pub filling_good : chain (token_rules v (tokens_from text from)) ≡ Ok tt → Good v (lead (drop i text))
      filling_good p = tokens_good v _ (sym (ahead v text from i f.over h g) ∙ p) _ (Memᴰ.head refl)

      pub filling_more : Good v (lead (drop i text)) → (w : ℤ) → w ≡ word_of (lead (drop i text)) → (e : ℕ) → e ≡ i + length (lead (drop i text)) → Filling v text from lent (e + 1) (k + 1) (set list k w)
      unfolding words_of over_more
      filling_more q w a e b =
          let t : List Token = f.over.done in
          record {
            over = over_more v text from i f.over h g q e b;
            words = sym (length-append t _ ∙ rw (← f.words));
            wrote = wrote_as (then f.wrote (put list k w)) (ap (λ (x : ℤ). words_of t ++ (x ∷ [])) a ∙ sym (words_of_append t (record { start = i; bytes = lead (drop i text) } ∷ [])));
          }

    pub filling_all : length (tokens_from text from) ≤ k → Wrote lent 0 (words_of (tokens_from text from)) list k
    filling_all h =
        let e = f.over.split in
        let n : length (tokens_from text i) ≡ 0 = omega (arith, h, f.words, ap length e, length-append f.over.done (tokens_from text i)) in
        wrote_as f.wrote (ap words_of (sym (e ∙ ap (λ (ts : List Token). f.over.done ++ ts) (nothing (tokens_from text i) n) ∙ append-nil f.over.done)))

  -- a turn: from the place past the last word to the next token, which stands there and is good, and past it
  module _ {i k : ℕ} {list : List ℤ} (f : Filling v text from lent i k list) {p : ℕ} (past : Past text i p) (h : k < length (tokens_from text from)) (good : chain (token_rules v (tokens_from text from)) ≡ Ok tt) where
    there : Filling v text from lent p k list
    there = filling_past i k list f p past.same

    inside : p < length text
    inside = filling_inside p k list there h

    pub filling_stands : (p < length text) × (is_gap (get_or text p 0) ≡ false) × Good v (lead (drop p text))
    filling_stands = (inside, past.begins inside, filling_good p k list there inside (past.begins inside) good)

    pub filling_word : {w : ℤ} {e : ℕ} → w ≡ word_of (lead (drop p text)) → e ≡ p + length (lead (drop p text)) → Filling v text from lent (e + 1) (k + 1) (set list k w)
    filling_word {w} {e} a b = filling_more p k list there inside (past.begins inside) filling_stands.2 w a e b
