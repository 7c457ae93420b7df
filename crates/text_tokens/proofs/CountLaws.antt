-- Laws of the first pass: the tokens up to a place are good, and counted. Assumes nothing.
use Rattle.std.specs.Prelude.{Ok, Err}
use mathlib.Core.Path.{◌≡◌, refl, sym, ap, ◌∙◌}
use mathlib.Core.Logic.{inl, inr}
use mathlib.Core.Bool.{Bool, true, false, cond}
use mathlib.Core.List.{List, [], ◌∷◌, ◌++◌}
use Prim.Native.Nat.{ℕ, ◌+◌, ◌≤◌, ◌<◌}
use native.Mathlib.Omega.{arith}
use lib.IntN.{ℤ}
use lib.ListN.{length, length-append, get_or, drop}
use Rattle.refusal.specs.Said.{giving}
use Rattle.lists.specs.Signed.{is_zero}
use mir.Val.{bool_byte}
use Rattle.refusal.specs.Rules.{chain}
use Rattle.refusal.specs.declared.Refusal.{Refusal}
use Rattle.cnf.specs.Words.{zeros, closed}
use Rattle.cnf.proofs.WordsLaws.{zeros-append, closed-append}
use Rattle.dimacs.specs.Tokens.{is_gap, lead, Token, word_of, Good, words_of}
use Rattle.dimacs.specs.Rules.{token_rules, tokens_from}
use Rattle.dimacs.proofs.PassLaws.{words_of_append, Behind, over_none, over_gap, over_more, over_all, over_misformed, over_beyond}
use Rattle.dimacs.proofs.NumberLaws.{as_number}
use Rattle.token.specs.declared.Word.{Word}
use Rattle.token.proofs.JudgeLaws.{TokenTold, told_good}
use Rattle.text_tokens.specs.Passes.{passed, pass_of}
use Rattle.text_tokens.specs.declared.Pass.{Pass}

-- n words and z clauses, of which the last is closed or not
pub record Counting (v : ℕ) (text : List ℕ) (from i n z : ℕ) (c : Bool) : Type 0 where
  pub over : Behind v text from i
  pub words : n ≡ length over.done
  pub clauses : z ≡ zeros (words_of over.done)
  pub ends : c ≡ closed (words_of over.done)
  pub less : n ≤ i
  pub fewer : z ≤ n

-- of one word more
zeros_one : (ws : List ℤ) (w : ℤ) (b : Bool) → is_zero w ≡ b → zeros (ws ++ (w ∷ [])) ≡ zeros ws + cond b 1 0
unfolding zeros
zeros_one ws w b e = zeros-append ws (w ∷ []) ∙ rw e (go b)
  where
    go : (t : Bool) → zeros ws + cond t (0 + 1) 0 ≡ zeros ws + cond t 1 0
    go true = refl
    go false = refl

closed_one : (ws : List ℤ) (w : ℤ) → closed (ws ++ (w ∷ [])) ≡ is_zero w
unfolding closed
closed_one ws w = closed-append ws w []

same_pass : {n n' z z' : ℕ} {c c' : Bool} → n ≡ n' → z ≡ z' → c ≡ c' → ◌≡◌ {A = Pass} (record { words = n; clauses = z; closed = c }) (record { words = n'; clauses = z'; closed = c' })
same_pass p q r = rw (p, q, r)

module _ (v : ℕ) (text : List ℕ) (from : ℕ) where
  pub counting_none : Counting v text from from 0 0 true
  unfolding words_of zeros closed over_none
  counting_none = record { over = over_none v text from; words = refl; clauses = refl; ends = refl; less = omega arith; fewer = omega arith }

  module _ (i n z : ℕ) (c : Bool) (k : Counting v text from i n z c) where
    pub counting_gap : i < length text → is_gap (get_or text i 0) ≡ true → Counting v text from (i + 1) n z c
    unfolding over_gap
    counting_gap h g = record { over = over_gap v text from i k.over h g; words = k.words; clauses = k.clauses; ends = k.ends; less = omega (arith, k.less); fewer = k.fewer }

    counting_more : i < length text → is_gap (get_or text i 0) ≡ false → Good v (lead (drop i text)) → (b : Bool) → is_zero (word_of (lead (drop i text))) ≡ b
        → (e : ℕ) → e ≡ i + length (lead (drop i text)) → Counting v text from (e + 1) (n + 1) (z + cond b 1 0) b
    unfolding words_of over_more
    counting_more h g q b zero e f =
        let t : List Token = k.over.done in
        let more = words_of_append t (record { start = i; bytes = lead (drop i text) } ∷ []) in
        record {
          over = over_more v text from i k.over h g q e f;
          words = sym (length-append t _ ∙ rw (← k.words));
          clauses = sym (ap zeros more ∙ zeros_one (words_of t) (word_of (lead (drop i text))) b zero ∙ rw (← k.clauses));
          ends = sym (ap closed more ∙ closed_one (words_of t) (word_of (lead (drop i text))) ∙ zero);
          less = omega (arith, k.less);
          fewer = go b;
        }
      where
        go : (t : Bool) → z + cond t 1 0 ≤ n + 1
        go true = omega (arith, k.fewer)
        go false = omega (arith, k.fewer)

    -- a word; and a token that is none
    module _ (h : i < length text) (g : is_gap (get_or text i 0) ≡ false) where
      pub counting_word : (w : Word) → TokenTold v text i (Ok w) → Counting v text from (w.end + 1) (n + 1) (z + bool_byte w.closes) w.closes
      counting_word w t = rw (as_number w.closes) (counting_more h g (told_good v text i w t) w.closes t.2 w.end t.3)

      pub counting_refused : (r : Refusal) → TokenTold v text i (Err r) → pass_of v (tokens_from text from) ≡ Err r
      counting_refused r (inl t) = rw (over_misformed v text from i k.over h g t.0, t.1)
      counting_refused r (inr t) = rw (over_beyond v text from i k.over h g t.0 t.1, t.2)

    pub counting_all : length text ≤ i → Ok (record { words = n; clauses = z; closed = c }) ≡ pass_of v (tokens_from text from)
    counting_all h =
        let e = over_all v text from i k.over h in
        ap Ok (same_pass (k.words ∙ ap length (sym e)) (k.clauses ∙ ap (λ (ts : List Token). zeros (words_of ts)) (sym e)) (k.ends ∙ ap (λ (ts : List Token). closed (words_of ts)) (sym e)))
        ∙ sym (ap (λ w. giving w (passed (tokens_from text from))) (ap (λ (ts : List Token). chain (token_rules v ts)) e ∙ k.over.passed))
