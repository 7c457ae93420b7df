-- Laws of the text that the writer writes: word by word, clause by clause, its bytes, and its tokens, which say the words.
-- Assumes nothing.
use Rattle.std.specs.Prelude.{Ok}
use mathlib.Core.Path.{◌≡◌, refl, sym, ap, ◌∙◌}
use mathlib.Core.Logic.{inl, inr}
use mathlib.Core.Bool.{Bool, true, false, cond}
use mathlib.Core.List.Memᴰ
use mathlib.Core.List.{List, [], ◌∷◌, ◌++◌, append_assoc}
use Prim.Native.Nat.{ℕ, suc, ◌+◌, ◌^◌, ◌≤◌, ◌<◌}
use native.Mathlib.Omega.{arith}
use lib.IntN.{ℤ, pos, negsuc, nat_abs}
use lib.ListN.{length, get_or}
use lib.Seq.{append_snoc}
use borrow.Author.Tests.{le-ltb, ne_eqb}
use Rattle.lists.specs.Every.{Every}
use Rattle.lists.specs.Signed.{is_zero}
use Rattle.lists.proofs.UptoLaws.{list_none, list_front}
use Rattle.lists.proofs.EveryLaws.{every_none, every_more, every_both, each_every, entry_in}
use Rattle.refusal.specs.Rules.{chain}
use Rattle.decimal.specs.Bytes.{line_feed}
use Rattle.decimal.specs.Digits.{digits}
use Rattle.decimal.proofs.DigitsLaws.{digits_small, all_digits_lem, all_every, digits_decimal, value_digits, length_pos}
use Rattle.cnf.specs.Clause.{Clause, words}
use Rattle.cnf.specs.Words.{clauses_of, zeros, closed, NoZero, NoZeros}
use Rattle.cnf.proofs.WordsLaws.{words_clauses, clauses_no_zero}
use Rattle.cnf.specs.Lent.{word}
use Rattle.dimacs.specs.Text.{head, space, minus, literal_text, word_text, body, header_line, text_of, line_of, lines_of, TextByte}
use Rattle.dimacs.specs.Tokens.{is_gap, ended, tokens, has_minus, unsigned, formed, word_of, words_of}
use Rattle.dimacs.specs.Rules.{token_rules}
use Rattle.dimacs.proofs.TokenLaws.{NoGap, tokens_gap, tokens_first, digits_no_gap, digits_no_minus}

-- ---- word by word

pub body_none : body [] ≡ []
unfolding body
body_none = list_none (λ k. word_text (word [] k))

pub body_more : (z : ℤ) (zs : List ℤ) → body (z ∷ zs) ≡ word_text z ++ body zs
unfolding body
body_more z zs = list_front (λ k. word_text (word (z ∷ zs) k)) (length zs)

-- the byte after a word
after : ℤ → ℕ
after z = cond (is_zero z) line_feed space

more_flat : (z : ℤ) (zs : List ℤ) → body (z ∷ zs) ≡ literal_text z ++ (after z ∷ body zs)
unfolding word_text after
more_flat z zs = body_more z zs ∙ append_snoc (literal_text z) (cond (is_zero z) line_feed space) (body zs)

-- ---- a word's text: a well_formed token that says the word

-- the word 0 is `0`
pub nought : literal_text (pos 0) ≡ 48 ∷ []
unfolding literal_text
nought = digits_small 0 (omega arith)

pub literal_formed : (z : ℤ) → nat_abs z < 10 ^ 20 → formed (literal_text z) ≡ true
unfolding formed unsigned has_minus literal_text
literal_formed (pos n) h = rw (digits_no_minus (digits n) (all_digits_lem n h), digits_decimal n h)
literal_formed (negsuc n) h = rw (digits_decimal (suc n) h, value_digits (suc n) h, ne_eqb (suc n) 0 (λ e. omega arith))

pub literal_says : (z : ℤ) → nat_abs z < 10 ^ 20 → word_of (literal_text z) ≡ z
unfolding word_of unsigned has_minus literal_text
literal_says (pos n) h = rw (digits_no_minus (digits n) (all_digits_lem n h), value_digits n h)
literal_says (negsuc n) h = rw (value_digits (suc n) h)

pub literal_no_gap : (z : ℤ) → nat_abs z < 10 ^ 20 → NoGap (literal_text z)
unfolding literal_text is_gap
literal_no_gap (pos n) h = digits_no_gap (digits n) (all_digits_lem n h)
literal_no_gap (negsuc n) h = every_more (λ b. is_gap b ≡ false) refl (digits_no_gap (digits (suc n)) (all_digits_lem (suc n) h))

pub literal_some : (z : ℤ) → nat_abs z < 10 ^ 20 → 0 < length (literal_text z)
unfolding literal_text
literal_some (pos n) h = length_pos n h
literal_some (negsuc n) h = omega arith

-- ---- the tokens of the words

after_gap : (z : ℤ) → is_gap (after z) ≡ true
unfolding is_gap after
after_gap z = go (is_zero z)
  where
    go : (t : Bool) → is_gap (cond t line_feed space) ≡ true
    go true = refl
    go false = refl

-- the first word's token, and then the others'
body_tokens : (at : ℕ) (z : ℤ) (zs : List ℤ) → nat_abs z < 10 ^ 20 → tokens false at (body (z ∷ zs)) ≡ record { start = at; bytes = literal_text z } ∷ tokens false (at + length (literal_text z) + 1) (body zs)
unfolding ended
body_tokens at z zs h =
    ap (tokens false at) (more_flat z zs)
    ∙ tokens_first at (literal_text z) (after z ∷ body zs) (literal_some z h) (literal_no_gap z h) (after_gap z)
    ∙ rw (tokens_gap false (at + length (literal_text z)) (after z) (body zs) (after_gap z))

pub body_words : (at : ℕ) (zs : List ℤ) → Every (λ z. nat_abs z < 10 ^ 20) zs → words_of (tokens false at (body zs)) ≡ zs
unfolding words_of tokens
body_words at [] g = rw body_none
body_words at (z ∷ zs) g =
    let h = g z (Memᴰ.head refl) in
    rw (body_tokens at z zs h, literal_says z h, body_words (at + length (literal_text z) + 1) zs (λ x m. g x (Memᴰ.tail m)))

pub body_passes : (v at : ℕ) (zs : List ℤ) → v < 10 ^ 20 → Every (λ z. nat_abs z ≤ v) zs → chain (token_rules v (tokens false at (body zs))) ≡ Ok tt
unfolding chain token_rules tokens
body_passes v at [] l g = rw body_none
body_passes v at (z ∷ zs) l g =
    let h = g z (Memᴰ.head refl) in
    let k : nat_abs z < 10 ^ 20 = omega arith in
    rw (body_tokens at z zs k, literal_formed z k, literal_says z k, le-ltb v (nat_abs z) h) (body_passes v (at + length (literal_text z) + 1) zs l (λ x m. g x (Memᴰ.tail m)))

-- ---- clause by clause

line_first : (c : Clause) (ws : List ℤ) → NoZero c → body (c ++ (pos 0 ∷ ws)) ≡ line_of c ++ body ws
unfolding line_of after is_zero
line_first [] ws g = more_flat (pos 0) ws ∙ ap (λ (l : List ℕ). l ++ (line_feed ∷ body ws)) nought
line_first (l ∷ c) ws g =
    more_flat l (c ++ (pos 0 ∷ ws))
    ∙ rw (g l (Memᴰ.head refl), line_first c ws (λ m t. g m (Memᴰ.tail t))) (sym (append_assoc (literal_text l) (space ∷ line_of c) (body ws)))

-- the text of the words of clauses is a line a clause
pub one_line_a_clause : (cs : List Clause) → NoZeros cs → body (words cs) ≡ lines_of cs
unfolding words lines_of
one_line_a_clause [] g = body_none
one_line_a_clause (c ∷ cs) g =
    line_first c (words cs) (g c (Memᴰ.head refl))
    ∙ ap (λ (l : List ℕ). line_of c ++ l) (one_line_a_clause cs (λ d m. g d (Memᴰ.tail m)))

-- and so is that of any word list whose last clause is closed
pub lines_of_words : (ws : List ℤ) → closed ws ≡ true → body ws ≡ lines_of (clauses_of ws)
lines_of_words ws c = ap body (sym (words_clauses ws c)) ∙ one_line_a_clause (clauses_of ws) (clauses_no_zero ws)

-- ---- its bytes

mark : (k : ℕ) → k < 7 → TextByte (get_or (space ∷ minus ∷ line_feed ∷ 112 ∷ 99 ∷ 110 ∷ 102 ∷ []) k 0)
mark k h = inr (entry_in 0 _ k h)

mark_space : TextByte space
mark_space = mark 0 (omega arith)

mark_line : TextByte line_feed
mark_line = mark 2 (omega arith)

digits_bytes : (n : ℕ) → n < 10 ^ 20 → Every TextByte (digits n)
digits_bytes n h b m = inl (all_every (digits n) (all_digits_lem n h) b m)

literal_bytes : (z : ℤ) → nat_abs z < 10 ^ 20 → Every TextByte (literal_text z)
unfolding literal_text
literal_bytes (pos n) h = digits_bytes n h
literal_bytes (negsuc n) h = every_more TextByte (mark 1 (omega arith)) (digits_bytes (suc n) h)

after_byte : (z : ℤ) → TextByte (after z)
unfolding after
after_byte z = go (is_zero z)
  where
    go : (t : Bool) → TextByte (cond t line_feed space)
    go true = mark_line
    go false = mark_space

body_bytes : (zs : List ℤ) → Every (λ z. nat_abs z < 10 ^ 20) zs → Every TextByte (body zs)
body_bytes [] g = rw body_none (every_none TextByte)
body_bytes (z ∷ zs) g =
    rw (more_flat z zs)
    (every_both TextByte (literal_text z) (literal_bytes z (g z (Memᴰ.head refl)))
    (every_more TextByte (after_byte z) (body_bytes zs (λ x m. g x (Memᴰ.tail m)))))

head_bytes : Every TextByte head
head_bytes = each_every TextByte head (mark 3 (omega arith), (mark_space, (mark 4 (omega arith), (mark 5 (omega arith), (mark 6 (omega arith), (mark_space, tt))))))

header_bytes : (v clauses : ℕ) → v < 10 ^ 20 → clauses < 10 ^ 20 → Every TextByte (header_line v clauses)
unfolding header_line
header_bytes v clauses h k =
    every_both TextByte head head_bytes
    (every_both TextByte (digits v) (digits_bytes v h)
    (every_more TextByte mark_space
    (every_both TextByte (digits clauses) (digits_bytes clauses k) (every_more TextByte mark_line (every_none TextByte)))))

pub text_bytes : (v : ℕ) (ws : List ℤ) → v < 10 ^ 20 → zeros ws < 10 ^ 20 → Every (λ z. nat_abs z < 10 ^ 20) ws → Every TextByte (text_of v ws)
unfolding text_of
text_bytes v ws h k g = every_both TextByte (header_line v (zeros ws)) (header_bytes v (zeros ws) h k) (body_bytes ws g)
