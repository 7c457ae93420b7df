-- Laws of a pass over the tokens of a text, from the left: what has been found up to a place. Assumes nothing.
use Rattle.std.specs.Prelude.{Ok, Err}
use mathlib.Core.Path.{◌≡◌, refl, sym, ap, ◌∙◌}
use mathlib.Core.Bool.{true, false}
use mathlib.Core.List.{List, [], ◌∷◌, ◌++◌, append_assoc, append-nil}
use Prim.Native.Nat.{ℕ, suc, ◌+◌, ◌≤◌, ◌<◌}
use lib.IntN.{ℤ, nat_abs}
use lib.ListN.{length, get_or, drop}
use borrow.Author.Tests.{le-ltb}
use Rattle.lists.specs.Signed.{beyond}
use Rattle.refusal.specs.Rules.{refusal, chain}
use Rattle.refusal.proofs.RulesLaws.{passes}
use Rattle.dimacs.specs.Tokens.{is_gap, lead, Token, formed, word_of, Good, words_of}
use Rattle.dimacs.specs.Rules.{token_rules, tokens_from}
use Rattle.dimacs.proofs.TokenLaws.{gap_at, token_at, none_at, past_token}

-- ---- one list of tokens after the other

pub words_of_append : (ts us : List Token) → words_of (ts ++ us) ≡ words_of ts ++ words_of us
unfolding words_of
words_of_append [] us = refl
words_of_append (t ∷ ts) us = ap (λ (l : List ℤ). word_of t.bytes ∷ l) (words_of_append ts us)

pub words_of_length : (ts : List Token) → length (words_of ts) ≡ length ts
unfolding words_of
words_of_length [] = refl
words_of_length (t ∷ ts) = ap suc (words_of_length ts)

rules_append : (v : ℕ) (ts us : List Token) → token_rules v (ts ++ us) ≡ token_rules v ts ++ token_rules v us
unfolding token_rules
rules_append v [] us = refl
rules_append v (t ∷ ts) us = rw (rules_append v ts us)

-- the tokens before some have passed: the later ones decide
pub on_to : (v : ℕ) (ts us : List Token) → chain (token_rules v ts) ≡ Ok tt → chain (token_rules v (ts ++ us)) ≡ chain (token_rules v us)
on_to v ts us p = ap chain (rules_append v ts us) ∙ sym (passes (token_rules v ts) (token_rules v us) (sym p) refl refl)

pub none_passed : (v : ℕ) → chain (token_rules v []) ≡ Ok tt
unfolding token_rules chain
none_passed v = refl

-- the first token decides
module _ (v : ℕ) (t : Token) (ts : List Token) where
  misformed_first : formed t.bytes ≡ false → chain (token_rules v (t ∷ ts)) ≡ Err (refusal 18 t.start)
  unfolding token_rules chain
  misformed_first f = rw f

  beyond_first : formed t.bytes ≡ true → beyond v (word_of t.bytes) ≡ true → chain (token_rules v (t ∷ ts)) ≡ Err (refusal 14 t.start)
  unfolding token_rules chain
  beyond_first f b = rw (f, b)

  pub good_first : Good v t.bytes → chain (token_rules v (t ∷ ts)) ≡ chain (token_rules v ts)
  unfolding token_rules chain
  good_first g = rw (g.is_formed, le-ltb v (nat_abs (word_of t.bytes)) g.in_range)

-- ---- up to a place

-- all tokens from `from` on are those of `done`, which are good, and those from i on
pub record Behind (v : ℕ) (text : List ℕ) (from i : ℕ) : Type 0 where
  pub done : List Token
  pub split : tokens_from text from ≡ done ++ tokens_from text i
  pub passed : chain (token_rules v done) ≡ Ok tt

module _ (v : ℕ) (text : List ℕ) (from : ℕ) where
  unfoldable pub over_none : Behind v text from from
  over_none = record { done = []; split = refl; passed = none_passed v }

  module _ (i : ℕ) (o : Behind v text from i) where
    abbrev pub here : Token
    here = record { start = i; bytes = lead (drop i text) }

    unfoldable pub over_gap : i < length text → is_gap (get_or text i 0) ≡ true → Behind v text from (i + 1)
    over_gap h g = record { done = o.done; split = o.split ∙ ap (λ (ts : List Token). o.done ++ ts) (gap_at text i h g); passed = o.passed }

    module _ (h : i < length text) (g : is_gap (get_or text i 0) ≡ false) where
      pub ahead : chain (token_rules v (tokens_from text from)) ≡ chain (token_rules v (here ∷ tokens_from text (i + length (lead (drop i text)))))
      ahead = ap (λ (ts : List Token). chain (token_rules v ts)) o.split ∙ on_to v o.done (tokens_from text i) o.passed ∙ ap (λ (ts : List Token). chain (token_rules v ts)) (token_at text i h g)

      pub over_misformed : formed (lead (drop i text)) ≡ false → chain (token_rules v (tokens_from text from)) ≡ Err (refusal 18 i)
      over_misformed f = ahead ∙ misformed_first v here _ f

      pub over_beyond : formed (lead (drop i text)) ≡ true → beyond v (word_of (lead (drop i text))) ≡ true → chain (token_rules v (tokens_from text from)) ≡ Err (refusal 14 i)
      over_beyond f b = ahead ∙ beyond_first v here _ f b

      -- one more, which ends at e
      unfoldable pub over_more : Good v (lead (drop i text)) → (e : ℕ) → e ≡ i + length (lead (drop i text)) → Behind v text from (e + 1)
      over_more k e q = record {
        done = o.done ++ (here ∷ []);
        split = o.split ∙ ap (λ (ts : List Token). o.done ++ ts) (token_at text i h g ∙ ap (λ (n : ℕ). here ∷ tokens_from text n) (sym q) ∙ ap (λ (ts : List Token). here ∷ ts) (past_token text i e q)) ∙ sym (append_assoc o.done (here ∷ []) (tokens_from text (e + 1)));
        passed = on_to v o.done (here ∷ []) o.passed ∙ good_first v here [] k ∙ none_passed v;
      }

    pub over_all : length text ≤ i → tokens_from text from ≡ o.done
    over_all h = o.split ∙ ap (λ (ts : List Token). o.done ++ ts) (none_at text i h) ∙ append-nil o.done
