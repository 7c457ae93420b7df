-- The reader's rules say what the reader's table says. Assumes nothing.
use Rattle.std.specs.Prelude.{Some, Ok}
use mathlib.Core.Path.{◌≡◌, refl, sym, ◌∙◌}
use mathlib.Core.Bool.{not, true≢false}
use mathlib.Core.List.Memᴰ
use mathlib.Core.List.{List, [], ◌∷◌}
use mathlib.Core.Logic.{◌↔◌}
use Prim.Native.Nat.{ℕ, ◌≤◌}
use native.Mathlib.Omega.{arith}
use lib.IntN.{nat_abs}
use lib.ListN.{length, drop}
use borrow.Author.Tests.{ltb-true, ltb-false, le-ltb, not-true, not-false}
use Rattle.lists.specs.Every.{Every}
use Rattle.lists.specs.First.{found_if}
use Rattle.lists.specs.Signed.{beyond}
use Rattle.lists.proofs.EveryLaws.{every_none, every_more}
use Rattle.lists.proofs.FirstLaws.{Tests, if_none, tests_at, tests_held, tests_equal_at}
use Rattle.refusal.specs.Rules.{chain}
use Rattle.refusal.proofs.RulesLaws.{not_due}
use Rattle.refusal.proofs.TableLaws.{Faithful, faithful_append}
use Rattle.refusal.proofs.RoomLaws.{room_faithful}
use Rattle.cnf.specs.Words.{zeros, closed}
use Rattle.cnf.proofs.LentLaws.{tests_counts}
use Rattle.dimacs.specs.Tokens.{Token, formed, word_of, Good}
use Rattle.dimacs.specs.Header.{HeaderLine, is_header}
use Rattle.dimacs.specs.Rules.{token_rules, end_rules, token_table, header_start, header_variables, header_clauses, text_tokens, text_words, header_rules, read_rules, read_table}
use Rattle.dimacs.proofs.HeaderLaws.{header_line_lem, line_header}

-- ---- one token

-- what is asked of a token, for variables up to v
abbrev pub GoodToken : ℕ → Token → Type 0
GoodToken v t = Good v t.bytes

-- ---- all tokens: every rule passes exactly when each token is well

pub tokens_good : (v : ℕ) (ts : List Token) → chain (token_rules v ts) ≡ Ok tt → Every (GoodToken v) ts
unfolding token_rules
tokens_good v [] q = every_none (GoodToken v)
tokens_good v (t ∷ ts) q =
    let q₁₈ = not_due 18 _ _ q in
    let q₁₄ = not_due 14 _ _ q₁₈.1 in
    every_more (GoodToken v) (record { is_formed = not-false _ (if_none _ _ q₁₈.0); in_range = ltb-false v (nat_abs (word_of t.bytes)) (if_none _ _ q₁₄.0) }) (tokens_good v ts q₁₄.1)

pub good_tokens : (v : ℕ) (ts : List Token) → Every (GoodToken v) ts → chain (token_rules v ts) ≡ Ok tt
unfolding token_rules chain
good_tokens v [] g = refl
good_tokens v (t ∷ ts) g =
    let w = g t (Memᴰ.head refl) in
    rw (w.is_formed, le-ltb v (nat_abs (word_of t.bytes)) w.in_range) (good_tokens v ts (λ x m. g x (Memᴰ.tail m)))

-- and then so they do for more variables
pub tokens_wider : (v w : ℕ) (ts : List Token) → v ≤ w → chain (token_rules v ts) ≡ Ok tt → chain (token_rules w ts) ≡ Ok tt
tokens_wider v w ts h q = good_tokens w ts (λ t m. let k = tokens_good v ts q t m in record { is_formed = k.is_formed; in_range = omega (arith, h, k.in_range) })

-- ---- the rows of tokens, and those after them

token_faithful : (v : ℕ) (ts : List Token) → Faithful (token_rules v ts) (token_table v ts)
unfolding token_rules
token_faithful v [] = tt
token_faithful v (t ∷ ts) =
    let n = nat_abs (word_of t.bytes) in
    (refl, (tests_held t.start (formed t.bytes)).at, λ _. (refl, (tests_at t.start (beyond v (word_of t.bytes)) (n ≤ v) (λ e. ltb-false v n e) (λ e h. omega (arith, ltb-true v n e))).at, λ _. token_faithful v ts))

module _ (text : List ℕ) where
  -- ---- number 17

  -- a header's line at the place
  abbrev Line : Type 0
  Line = (ds : List ℕ) × (es : List ℕ) × (rest : List ℕ) × HeaderLine (drop (header_start text) text) ds es rest

  tests_header : Tests (found_if (not (is_header text (header_start text))) (header_start text)) (λ p. (p ≡ header_start text) × (Line → ⊥)) Line
  tests_header =
      tests_at (header_start text) (not (is_header text (header_start text))) Line
      (λ e. let w = header_line_lem text (header_start text) (not-false _ e) in (w.0, w.1, w.2, w.3))
      (λ e l. true≢false (sym (line_header text (header_start text) l.0 l.1 l.2 l.3).is_header_lem ∙ not-true _ e))

  header_row : (p : ℕ) → (found_if (not (is_header text (header_start text))) (header_start text) ≡ Some p) ↔ ((p ≡ header_start text) × ((ds es rest : List ℕ) → HeaderLine (drop (header_start text) text) ds es rest → ⊥))
  header_row p = (
    (λ e. let w = (tests_header.at p).0 e in (w.0, λ ds es rest l. w.1 (ds, es, rest, l))),
    (λ w. (tests_header.at p).1 (w.0, λ l. w.1 l.0 l.1 l.2 l.3)),
  )

  -- ---- all numbers

  pub read_faithful : (room : ℕ) → Faithful (read_rules text room) (read_table text room)
  unfolding read_rules header_rules end_rules
  read_faithful room = (
    refl,
    header_row,
    λ _. (
      refl,
      (tests_counts (header_start text) (header_variables text) (header_clauses text)).at,
      λ _. faithful_append (token_rules (header_variables text) (text_tokens text)) _ _ _ (token_faithful (header_variables text) (text_tokens text)) (λ _. (
        refl,
        (tests_held (length text) (closed (text_words text))).at,
        λ _. (refl, (tests_equal_at (zeros (text_words text)) (zeros (text_words text)) (header_clauses text)).at, λ _. room_faithful (length (text_words text)) room),
      )),
    ),
  )
