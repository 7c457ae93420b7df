-- Laws of the words of a clause list and of the clauses of a word list: each leads back to the other. Assumes nothing.
use mathlib.Core.Path.{◌≡◌, refl, sym, ◌∙◌, ap, subst}
use mathlib.Core.Logic.{◌⊎◌, inl, inr}
use mathlib.Core.Bool.{Bool, true, false, cond, false≢true}
use mathlib.Core.List.Memᴰ
use mathlib.Core.List.{List, [], ◌∷◌, ◌++◌, append_assoc, Memᴰ}
use Prim.Native.Nat.{ℕ, zero, suc, ◌+◌, ◌-◌, ◌≤◌, ◌<◌}
use native.Mathlib.Nat.{zero-add}
use native.Mathlib.Omega.{arith}
use lib.IntN.{ℤ, pos, negsuc}
use lib.ListN.{length, get_or, take, length-append}
use lib.Seq.{take-suc, take-length}
use Rattle.lists.specs.Signed.{is_zero}
use Rattle.lists.specs.Upto.{up_to, sum_to, count_to}
use Rattle.lists.proofs.UptoLaws.{list_length}
use Rattle.cnf.specs.Clause.{Clause, words}
use Rattle.cnf.specs.Words.{start_with, clauses_of, zeros, closed, NoZero, NoZeros}

-- ---- words, clause by clause

pub words_none : words [] ≡ []
unfolding words
words_none = refl

pub words_more : (c : Clause) (cs : List Clause) → words (c ∷ cs) ≡ c ++ (pos 0 ∷ words cs)
unfolding words
words_more c cs = refl

-- of a single clause
pub words_one : (c : Clause) → words (c ∷ []) ≡ c ++ (pos 0 ∷ [])
unfolding words
words_one c = refl

pub words_append : (cs ds : List Clause) → words (cs ++ ds) ≡ words cs ++ words ds
unfolding words
words_append [] ds = refl
words_append (c ∷ cs) ds = ap (λ (l : List ℤ). c ++ (pos 0 ∷ l)) (words_append cs ds) ∙ sym (append_assoc c (pos 0 ∷ words cs) (words ds))

pub words-up_to : (n : ℕ) (f : ℕ → List Clause) → words (up_to n f) ≡ up_to n (λ k. words (f k))
unfolding words up_to
words-up_to zero f = refl
words-up_to (suc n) f = words_append (up_to n f) (f n) ∙ rw (words-up_to n f)

-- ---- how many words

pub length_more : (c : Clause) (cs : List Clause) → length (words (c ∷ cs)) ≡ length c + 1 + length (words cs)
unfolding words
length_more c cs = length-append c (pos 0 ∷ words cs) ∙ omega arith

pub length_both : (cs ds : List Clause) → length (words (cs ++ ds)) ≡ length (words cs) + length (words ds)
length_both cs ds = ap length (words_append cs ds) ∙ length-append (words cs) (words ds)

pub length-up_to : (n : ℕ) (f : ℕ → List Clause) → length (words (up_to n f)) ≡ sum_to n (λ k. length (words (f k)))
length-up_to n f = ap length (words-up_to n f) ∙ list_length (λ k. words (f k)) n

-- a clause at each index
pub length_each : (n : ℕ) (c : ℕ → Clause) → length (words (up_to n (λ k. c k ∷ []))) ≡ sum_to n (λ k. length (c k) + 1)
unfolding sum_to up_to words
length_each zero c = refl
length_each (suc n) c =
    length_both (up_to n (λ k. c k ∷ [])) (c n ∷ [])
    ∙ rw (length_each n c, length-append)

-- ---- which words: each is 0 or a literal of a clause

pub word_of : (cs : List Clause) {w : ℤ} → Memᴰ w (words cs) → (w ≡ pos 0) ⊎ ((c : Clause) × Memᴰ c cs × Memᴰ w c)
unfolding words
word_of [] m = absurd (Memᴰ.not-nil m)
word_of (c ∷ cs) {w} m = go (Memᴰ.append_cases c m) (word_of cs)
  where
    later : (w ≡ pos 0) ⊎ ((d : Clause) × Memᴰ d cs × Memᴰ w d) → (w ≡ pos 0) ⊎ ((d : Clause) × Memᴰ d (c ∷ cs) × Memᴰ w d)
    later (inl e) = inl e
    later (inr t) = inr (t.0, Memᴰ.tail t.1, t.2)

    close : (w ≡ pos 0) ⊎ Memᴰ w (words cs) → (Memᴰ w (words cs) → (w ≡ pos 0) ⊎ ((d : Clause) × Memᴰ d cs × Memᴰ w d)) → (w ≡ pos 0) ⊎ ((d : Clause) × Memᴰ d (c ∷ cs) × Memᴰ w d)
    close (inl e) r = inl e
    close (inr l) r = later (r l)

    go : Memᴰ w c ⊎ Memᴰ w (pos 0 ∷ words cs) → (Memᴰ w (words cs) → (w ≡ pos 0) ⊎ ((d : Clause) × Memᴰ d cs × Memᴰ w d)) → (w ≡ pos 0) ⊎ ((d : Clause) × Memᴰ d (c ∷ cs) × Memᴰ w d)
    go (inl l) r = inr (c, Memᴰ.head refl, l)
    go (inr l) r = close (Memᴰ.cases_cons l) r

pub in_words : {c : Clause} {cs : List Clause} {l : ℤ} → Memᴰ c cs → Memᴰ l c → Memᴰ l (words cs)
unfolding words
in_words (Memᴰ.head {x = d} {xs = cs} e) m = Memᴰ.append_left (pos 0 ∷ words cs) (subst (Memᴰ _) e m)
in_words (Memᴰ.tail {x = d} m') m = Memᴰ.append_right d (Memᴰ.tail (in_words m' m))

-- ---- the clauses of a word list, word by word

pub of_zero : (ws : List ℤ) → clauses_of (pos 0 ∷ ws) ≡ [] ∷ clauses_of ws
unfolding clauses_of is_zero
of_zero ws = refl

pub of_literal : (l : ℤ) (ws : List ℤ) → is_zero l ≡ false → clauses_of (l ∷ ws) ≡ start_with l (clauses_of ws)
unfolding clauses_of
of_literal l ws e = rw e

-- a clause's literals and its 0, and then more
pub of_clause : (c : Clause) (ws : List ℤ) → NoZero c → clauses_of (c ++ (pos 0 ∷ ws)) ≡ c ∷ clauses_of ws
unfolding start_with
of_clause [] ws g = of_zero ws
of_clause (l ∷ c) ws g =
    of_literal l (c ++ (pos 0 ∷ ws)) (g l (Memᴰ.head refl))
    ∙ ap (start_with l) (of_clause c ws (λ m t. g m (Memᴰ.tail t)))

-- the clauses of the words of clauses are those clauses
pub clauses_words : (cs : List Clause) → NoZeros cs → clauses_of (words cs) ≡ cs
unfolding words clauses_of
clauses_words [] g = refl
clauses_words (c ∷ cs) g =
    of_clause c (words cs) (g c (Memᴰ.head refl))
    ∙ ap (λ (ds : List Clause). c ∷ ds) (clauses_words cs (λ d m. g d (Memᴰ.tail m)))

-- ---- how many zeros

pub zeros-append : (vs ws : List ℤ) → zeros (vs ++ ws) ≡ zeros vs + zeros ws
unfolding zeros
zeros-append [] ws = sym (zero-add (zeros ws))
zeros-append (v ∷ vs) ws = go (is_zero v) (zeros-append vs ws)
  where
    go : (b : Bool) → zeros (vs ++ ws) ≡ zeros vs + zeros ws → cond b (zeros (vs ++ ws) + 1) (zeros (vs ++ ws)) ≡ cond b (zeros vs + 1) (zeros vs) + zeros ws
    go true e = omega arith
    go false e = e

-- counted index by index, as a loop does it
pub zeros_to : (ws : List ℤ) (n : ℕ) → n ≤ length ws → zeros (take n ws) ≡ count_to n (λ k. is_zero (get_or ws k (pos 0)))
unfolding zeros count_to sum_to
zeros_to ws zero h = refl
zeros_to ws (suc n) h =
    let e : zeros (take (suc n) ws) ≡ zeros (take n ws) + cond (is_zero (get_or ws n (pos 0))) 1 0 = rw (take-suc ws n (pos 0)) (zeros-append (take n ws) (get_or ws n (pos 0) ∷ [])) in
    e ∙ rw (zeros_to ws n (omega arith))

pub zeros_count : (ws : List ℤ) → zeros ws ≡ count_to (length ws) (λ k. is_zero (get_or ws k (pos 0)))
zeros_count ws = ap zeros (sym (take-length ws)) ∙ zeros_to ws (length ws) (omega arith)

zeros_of_clause : (c : Clause) → NoZero c → zeros c ≡ 0
unfolding zeros
zeros_of_clause [] g = refl
zeros_of_clause (l ∷ c) g = rw (g l (Memᴰ.head refl)) (zeros_of_clause c (λ m t. g m (Memᴰ.tail t)))

-- the words of clauses have a 0 for each
pub zeros_words : (cs : List Clause) → NoZeros cs → zeros (words cs) ≡ length cs
unfolding words zeros is_zero
zeros_words [] g = refl
zeros_words (c ∷ cs) g =
    zeros-append c (pos 0 ∷ words cs)
    ∙ omega (arith, zeros_of_clause c (g c (Memᴰ.head refl)), zeros_words cs (λ d m. g d (Memᴰ.tail m)))

start_length : (l : ℤ) (cs : List Clause) → length (start_with l cs) ≡ length cs
unfolding start_with
start_length l [] = refl
start_length l (c ∷ cs) = refl

-- a word list has a clause for each 0
pub clauses_length : (ws : List ℤ) → length (clauses_of ws) ≡ zeros ws
unfolding clauses_of zeros
clauses_length [] = refl
clauses_length (w ∷ ws) = go (is_zero w) (clauses_length ws)
  where
    go : (b : Bool) → length (clauses_of ws) ≡ zeros ws → length (cond b ([] ∷ clauses_of ws) (start_with w (clauses_of ws))) ≡ cond b (zeros ws + 1) (zeros ws)
    go true e = omega arith
    go false e = start_length w (clauses_of ws) ∙ e

-- ---- closed

pub closed_none : closed [] ≡ true
unfolding closed
closed_none = refl

pub closed_empty : (ws : List ℤ) → length ws ≡ 0 → closed ws ≡ true
closed_empty [] h = closed_none
closed_empty (w ∷ ws) h = absurd (omega arith)

-- as code tests it: the last word, or 0 where there is none
pub closed_last : (ws : List ℤ) → closed ws ≡ is_zero (get_or ws (length ws - 1) (pos 0))
unfolding closed is_zero
closed_last [] = refl
closed_last (w ∷ []) = refl
closed_last (w ∷ v ∷ ws) =
    let e : suc (suc (length ws)) - 1 ≡ suc (suc (length ws) - 1) = omega arith in
    closed_last (v ∷ ws) ∙ rw e

closed_more : (w : ℤ) (ws : List ℤ) → 0 < length ws → closed (w ∷ ws) ≡ closed ws
unfolding closed
closed_more w [] h = absurd (omega arith)
closed_more w (v ∷ ws) h = refl

-- what comes last decides
pub closed-append : (vs : List ℤ) (w : ℤ) (ws : List ℤ) → closed (vs ++ (w ∷ ws)) ≡ closed (w ∷ ws)
closed-append [] w ws = refl
closed-append (v ∷ vs) w ws = closed_more v (vs ++ (w ∷ ws)) (omega (arith, length-append vs (w ∷ ws))) ∙ closed-append vs w ws

pub closed_zero : (ws : List ℤ) → closed ws ≡ true → closed (pos 0 ∷ ws) ≡ true
unfolding closed is_zero
closed_zero [] h = refl
closed_zero (w ∷ ws) h = h

pub closed_words : (cs : List Clause) → closed (words cs) ≡ true
unfolding words
closed_words [] = closed_none
closed_words (c ∷ cs) = closed-append c (pos 0) (words cs) ∙ closed_zero (words cs) (closed_words cs)

-- a word that is 0
pub zero_only : (w : ℤ) → is_zero w ≡ true → w ≡ pos 0
unfolding is_zero
zero_only (pos zero) e = refl
zero_only (pos (suc n)) e = absurd (false≢true e)
zero_only (negsuc n) e = absurd (false≢true e)

-- a literal before clauses, of which there are some, goes before their words
words_start : (l : ℤ) (cs : List Clause) (v : ℤ) (ws : List ℤ) → words cs ≡ v ∷ ws → words (start_with l cs) ≡ l ∷ words cs
unfolding words start_with
words_start l [] v ws e = absurd (omega (arith, ap length e))
words_start l (c ∷ cs) v ws e = refl

word_first : (w v : ℤ) (ws : List ℤ) → words (clauses_of (v ∷ ws)) ≡ v ∷ ws → words (clauses_of (w ∷ (v ∷ ws))) ≡ w ∷ (v ∷ ws)
word_first w v ws r = go (is_zero w) refl
  where
    go : (b : Bool) → is_zero w ≡ b → words (clauses_of (w ∷ (v ∷ ws))) ≡ w ∷ (v ∷ ws)
    go true e =
        let z = zero_only w e in
        ap (λ (x : ℤ). words (clauses_of (x ∷ (v ∷ ws)))) z
        ∙ ap words (of_zero (v ∷ ws)) ∙ words_more [] (clauses_of (v ∷ ws))
        ∙ ap (λ (l : List ℤ). pos 0 ∷ l) r
        ∙ ap (λ (x : ℤ). x ∷ (v ∷ ws)) (sym z)
    go false e =
        ap words (of_literal w (v ∷ ws) e) ∙ words_start w (clauses_of (v ∷ ws)) v ws r
        ∙ ap (λ (l : List ℤ). w ∷ l) r

-- the words of the clauses of a closed word list are that list
pub words_clauses : (ws : List ℤ) → closed ws ≡ true → words (clauses_of ws) ≡ ws
unfolding words clauses_of closed is_zero
words_clauses [] h = refl
words_clauses (w ∷ []) h = let z = zero_only w h in ap (λ (x : ℤ). words (clauses_of (x ∷ []))) z ∙ ap (λ (x : ℤ). x ∷ []) (sym z)
words_clauses (w ∷ v ∷ ws) h = word_first w v ws (words_clauses (v ∷ ws) h)

-- ---- the literals of the clauses of a word list

start_all : (P : ℤ → Type 0) (l : ℤ) (cs : List Clause) → P l → ((c : Clause) → Memᴰ c cs → (m : ℤ) → Memᴰ m c → P m) → (c : Clause) → Memᴰ c (start_with l cs) → (m : ℤ) → Memᴰ m c → P m
unfolding start_with
start_all P l [] p g c i = absurd (Memᴰ.not-nil i)
start_all P l (d ∷ cs) p g c (Memᴰ.tail i) = g c (Memᴰ.tail i)
start_all P l (d ∷ cs) p g c (Memᴰ.head e) = λ m j. first m (subst (Memᴰ m) e j)
  where
    first : (m : ℤ) → Memᴰ m (l ∷ d) → P m
    first m (Memᴰ.head q) = subst P (sym q) p
    first m (Memᴰ.tail j) = g d (Memᴰ.head refl) m j

-- what holds of each word other than 0 holds of each literal
pub literals_all : (P : ℤ → Type 0) (ws : List ℤ) → ((w : ℤ) → Memᴰ w ws → is_zero w ≡ false → P w) → (c : Clause) → Memᴰ c (clauses_of ws) → (m : ℤ) → Memᴰ m c → P m
unfolding clauses_of
literals_all P [] g c i = absurd (Memᴰ.not-nil i)
literals_all P (w ∷ ws) g c i = go (is_zero w) refl (literals_all P ws (λ v j e. g v (Memᴰ.tail j) e)) i
  where
    after : ((c : Clause) → Memᴰ c (clauses_of ws) → (m : ℤ) → Memᴰ m c → P m) → Memᴰ c ([] ∷ clauses_of ws) → (m : ℤ) → Memᴰ m c → P m
    after r (Memᴰ.head e) m j = absurd (Memᴰ.not-nil (subst (Memᴰ m) e j))
    after r (Memᴰ.tail i) m j = r c i m j

    go : (b : Bool) → is_zero w ≡ b → ((c : Clause) → Memᴰ c (clauses_of ws) → (m : ℤ) → Memᴰ m c → P m) → Memᴰ c (cond b ([] ∷ clauses_of ws) (start_with w (clauses_of ws))) → (m : ℤ) → Memᴰ m c → P m
    go true e r i = after r i
    go false e r i = start_all P w (clauses_of ws) (g w (Memᴰ.head refl) e) r c i

-- none is 0, and each is a word
pub clauses_no_zero : (ws : List ℤ) → NoZeros (clauses_of ws)
clauses_no_zero ws = literals_all (λ l. is_zero l ≡ false) ws (λ w m e. e)
