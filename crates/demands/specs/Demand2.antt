-- Demand 2: `encode` writes exactly the list of its edition, and the words are clauses over the variables; which variable
-- has which number; in edition 1 how many clauses, words and variables there are; and that the list comes back from its
-- clause text. The list itself is `clauses` of crate `clauses`. Assumes nothing.
use Rattle.std.specs.Prelude.{◌≡◌, ◌⊎◌, true, ℕ, ◌+◌, ◌-◌, ◌*◌, ◌/◌, ◌≤◌, ℤ, pos, nat_abs, length, take, drop, replicate}
use mathlib.Core.List.{List, ◌∷◌, ◌++◌, Memᴰ}
use Rattle.lists.specs.Upto.{sum_to}
use Rattle.cnf.specs.Clause.{Clause, words}
use Rattle.cnf.specs.Encoded.{tally}
use Rattle.cnf.specs.Words.{clauses_of, zeros, closed}
use Rattle.diagram.specs.Lent.{Lent, lent, options, nodes, domain, layer}
use Rattle.diagram.specs.Sound.{Within}
use Rattle.cnf.specs.declared.Tally.{Tally}
use Rattle.cnf.specs.declared.Encoded.TheVariants.{Written}
use Rattle.cnf.specs.declared.EncodeAnswer.{EncodeAnswer}
use Rattle.clauses.specs.Variables.{value_variable, reference_variable, edge_variable}
use Rattle.clauses.specs.Clauses.{Edition, edition1, last_variable, clauses}
use Rattle.encoding.specs.Promise.{EncodePromise}
use Rattle.dimacs.specs.Text.{header_line, text_of, lines_of, TextByte}
use Rattle.dimacs.specs.Write.{WritePromise}
use Rattle.dimacs.specs.Read.{ReadPromise}
use Rattle.dimacs.specs.declared.WriteAnswer.{WriteAnswer}
use Rattle.dimacs.specs.declared.TextWritten.TheVariants as text
use Rattle.dimacs.specs.declared.ReadAnswer.{ReadAnswer}
use Rattle.dimacs.specs.declared.TextRead.TheVariants.{Read}

-- what `encode` has done where the diagram is sound and its words fit: it has answered with the list's own counts, the
-- buffer begins with exactly the list's words, and holds what it held past them
pub record ExactlyTheList (e : Edition) (d : Lent) (before : List ℤ) (answer : EncodeAnswer) (after : List ℤ) : Type 0 where
  pub answered : answer.outcome ≡ Written (tally (length (words (clauses e d))) (length (clauses e d)) (last_variable e d))
  pub the_words : take (length (words (clauses e d))) after ≡ words (clauses e d)
  pub the_rest : drop (length (words (clauses e d))) after ≡ drop (length (words (clauses e d))) before

module _ (d : Lent) where
  -- the sum of the domains
  abbrev pub D : ℕ
  D = sum_to (options d) (domain d)

  -- how many edges the nodes before v have: for each of them the domain of its option
  abbrev pub edges_before : ℕ → ℕ
  edges_before v = sum_to v (λ u. domain d (layer d u - 1))

  -- and all of the nodes
  abbrev pub E : ℕ
  E = edges_before (nodes d)

-- V, the clauses and the words, for every diagram as it is lent
pub record Counts (d : Lent) : Type 0 where
  pub last_variable_is : last_variable edition1 d ≡ D d + nodes d + 2 + E d
  pub clause_count : length (clauses edition1 d) ≡ 3 + nodes d + 4 * E d + sum_to (options d) (λ i. 1 + domain d i * (domain d i - 1) / 2)
  pub word_count : length (words (clauses edition1 d)) ≡ 6 + 2 * nodes d + 14 * E d + sum_to (options d) (λ i. domain d i + 1 + 3 * domain d i * (domain d i - 1) / 2)

-- the table of variables; options, nodes, edges and values count from 0
pub record Numbers (d : Lent) : Type 0 where
  pub value : (i j : ℕ) → value_variable d i j ≡ 1 + sum_to i (domain d) + j
  pub reference : (r : ℕ) → reference_variable d r ≡ D d + 1 + r
  pub edge : (v j : ℕ) → edge_variable d v j ≡ D d + nodes d + 3 + (edges_before d v + j)

-- how large they can be: `Is` is `◌≤◌` of every sound diagram, and `◌≡◌` of the largest
pub record Maxima (Is : ℕ → ℕ → Type 0) (d : Lent) : Type 0 where
  pub most_clauses : Is (length (clauses edition1 d)) 560195
  pub most_words : Is (length (words (clauses edition1 d))) 1940550
  pub most_variables : Is (last_variable edition1 d) 137218

-- 64 options of 32 values; a root and 4,095 nodes of layer 2; every edge leads to F
unfoldable pub largest : Lent
largest = lent (replicate 64 32) (1 ∷ replicate 4095 2) (replicate 131072 0)

-- every literal is a variable from 1 to V, either way; every word is 0 or such a literal, every clause is closed by its 0,
-- and the clauses can be told from the words
pub record WellFormed (e : Edition) (d : Lent) : Type 0 where
  pub literals : (c : Clause) → Memᴰ c (clauses e d) → (l : ℤ) → Memᴰ l c → Within 1 (last_variable e d) (nat_abs l)
  pub each_word : (w : ℤ) → Memᴰ w (words (clauses e d)) → (w ≡ pos 0) ⊎ Within 1 (last_variable e d) (nat_abs w)
  pub all_closed : closed (words (clauses e d)) ≡ true
  pub one_zero_each : zeros (words (clauses e d)) ≡ length (clauses e d)
  pub told_back : clauses_of (words (clauses e d)) ≡ clauses e d

-- the list as clause text. The text is the header's line, with V and the number of clauses, and then a line a clause, and has
-- no bytes but digits, spaces, minuses, line feeds and the header's letters. What `encode` has written is accepted by
-- `write_text`, which writes that text; and `read_text` of the bytes that `write_text` has written gives the same words, their number, the number of
-- clauses and V, wherever the lent buffers are long enough
pub record TextRoundTrip (e : Edition) (d : Lent) : Type 0 where
  pub the_text : text_of (last_variable e d) (words (clauses e d)) ≡ header_line (last_variable e d) (length (clauses e d)) ++ lines_of (clauses e d)
  pub its_bytes : (b : ℕ) → Memᴰ b (text_of (last_variable e d) (words (clauses e d))) → TextByte b
  pub accepted : (before after : List ℤ) (encoded : EncodeAnswer) (t : Tally) → EncodePromise e d before encoded after → encoded.outcome ≡ Written t
      → (page page' : List ℕ) (answer : WriteAnswer) → WritePromise t.variables (take t.words after) page answer page' → length (text_of (last_variable e d) (words (clauses e d))) ≤ length page
      → (answer.outcome ≡ text.Written (length (text_of (last_variable e d) (words (clauses e d))))) × (take (length (text_of (last_variable e d) (words (clauses e d)))) page' ≡ text_of (last_variable e d) (words (clauses e d)))
  pub given_back : (before after : List ℤ) (encoded : EncodeAnswer) (t : Tally) → EncodePromise e d before encoded after → encoded.outcome ≡ Written t
      → (page page' : List ℕ) (answer : WriteAnswer) (n : ℕ) → WritePromise t.variables (take t.words after) page answer page' → answer.outcome ≡ text.Written n
      → (lent list : List ℤ) (read : ReadAnswer) → ReadPromise (take n page') lent read list → t.words ≤ length lent
      → (read.outcome ≡ Read t) × (take t.words list ≡ take t.words after) × (drop t.words list ≡ drop t.words lent)
