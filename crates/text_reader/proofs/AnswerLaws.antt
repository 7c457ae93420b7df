-- How `read_text` comes to its answer. Assumes nothing.
use Rattle.std.specs.Prelude.{Ok, Err, Result}
use mathlib.Core.Path.{◌≡◌, sym, ◌∙◌, ap}
use mathlib.Core.Bool.{true, false, not}
use mathlib.Core.List.{List, [], ◌∷◌, ◌++◌}
use Prim.Native.Nat.{ℕ, ◌≤◌}
use lib.Dec.{eqb}
use lib.IntN.{ℤ}
use lib.ListN.{length, drop}
use borrow.Author.Tests.{eqb-true, not-false}
use Rattle.lists.specs.Buffer.{over}
use Rattle.lists.specs.First.{found_if}
use Rattle.lists.proofs.FirstLaws.{if_none}
use Rattle.refusal.specs.Rules.{Verdict, Rule, rule, refusal, and_then, room_rule, chain}
use Rattle.refusal.specs.declared.Refusal.{Refusal}
use Rattle.refusal.proofs.RoomLaws.{fits}
use Rattle.refusal.proofs.RulesLaws.{chain_first, not_due}
use Rattle.cnf.specs.Words.{zeros, closed}
use Rattle.cnf.specs.Lent.{too_many}
use Rattle.cnf.specs.declared.Tally.{Tally}
use Rattle.cnf.specs.Encoded.{tally}
use Rattle.dimacs.specs.Tokens.{Token, words_of}
use Rattle.dimacs.specs.Rules.{token_rules, end_rules, tokens_from, header_variables, header_clauses, text_tokens, text_words, header_rules, read_rules}
use Rattle.dimacs.proofs.PassLaws.{words_of_length}
use Rattle.dimacs.proofs.VerdictLaws.{by_refusal, by_result, first_refuse, goes_on}
use Rattle.text_header.specs.Header.{header_of}
use Rattle.text_header.specs.declared.Header.{Header}
use Rattle.text_header.proofs.HeaderLaws.{header_missing, header_found}
use Rattle.text_tokens.specs.Passes.{PassedOver}
use Rattle.text_tokens.specs.declared.Pass.{Pass}
use Rattle.text_reader.specs.Words.{Counted, GivesWords}

-- numbers 15, 19 and 7, one after the other
pub ends_in_parts : (size clauses : ℕ) (ws : List ℤ) (room : ℕ)
    → chain (end_rules size clauses ws room)
    ≡ and_then (chain (rule 15 (found_if (not (closed ws)) size) ∷ [])) (and_then (chain (rule 19 (found_if (not (eqb (zeros ws) clauses)) (zeros ws)) ∷ [])) (chain (room_rule (length ws) room ∷ [])))
unfolding end_rules
ends_in_parts size clauses ws room = chain_first _ _ _ ∙ ap (and_then _) (chain_first _ _ _)

-- what they say where they pass
module _ (size clauses : ℕ) (ws : List ℤ) (room : ℕ) (e : chain (end_rules size clauses ws room) ≡ Ok tt) where
  pub ends_pass : (zeros ws ≡ clauses) × (length ws ≤ room)
  unfolding end_rules
  ends_pass = let p = (not_due 15 _ _ e).1 in let q = not_due 19 _ _ p in (eqb-true (zeros ws) clauses (not-false _ (if_none _ _ q.0)), fits (length ws) room q.1)

-- the tokens: numbers 18 and 14, and then those three
module _ (v : ℕ) (ts : List Token) (size clauses : ℕ) (before : List ℤ) where
  abbrev ws : List ℤ
  ws = words_of ts

  abbrev ends : List Rule
  ends = end_rules size clauses ws (length before)

  pub read_bad_token : {r : Refusal} → chain (token_rules v ts) ≡ Err r → GivesWords (token_rules v ts ++ ends) ws v before (Err r) before
  read_bad_token q = first_refuse _ _ before (token_rules v ts) ends q

  -- good tokens, counted, and what is said of the ends of whatever words are so many
  module _ {p : Pass} (good : PassedOver v ts p) {w : Verdict} (said : (vs : List ℤ) → Counted vs p → w ≡ chain (end_rules size clauses vs (length before))) where
    many : p.words ≡ length ws
    many = good.1 ∙ sym (words_of_length ts)

    verdict : w ≡ chain ends
    verdict = said ws (record { words = many; clauses = good.2; ends = good.3 })

    pub read_bad_end : {r : Refusal} → w ≡ Err r → GivesWords (token_rules v ts ++ ends) ws v before (Err r) before
    read_bad_end q = goes_on _ _ before (token_rules v ts) ends good.0 (by_refusal _ _ before (sym verdict ∙ q))

    module _ (q : w ≡ Ok tt) where
      pub ends_fit : p.words ≤ length before
      ends_fit = rw many (ends_pass size clauses ws (length before) (sym verdict ∙ q)).1

      pub read_done : {filled : List ℤ} → filled ≡ ws → GivesWords (token_rules v ts ++ ends) ws v before (Ok (tally p.words clauses v)) (filled ++ drop p.words before)
      unfolding over
      read_done e =
          let c = (ends_pass size clauses ws (length before) (sym verdict ∙ q)).0 in
          goes_on _ _ before (token_rules v ts) ends good.0 (by_result _ _ before (sym verdict ∙ q) (rw (many, c)) (rw (e, many)))

-- the header: numbers 17 and 16; where they pass, the later rules decide
module _ (text : List ℕ) (before : List ℤ) where
  abbrev later : List Rule
  later = token_rules (header_variables text) (text_tokens text) ++ end_rules (length text) (header_clauses text) (text_words text) (length before)

  abbrev Gives : Result Tally Refusal → List ℤ → Type 0
  Gives = GivesWords (read_rules text (length before)) (text_words text) (header_variables text) before

  pub read_no_header : {r : Refusal} → header_of text ≡ Err r → Gives (Err r) before
  unfolding read_rules header_rules chain
  read_no_header e = let p = header_missing text e in rw p.1 (first_refuse _ _ before (header_rules text) later (rw p.0))

  module _ {h : Header} (e : header_of text ≡ Ok h) where
    pub read_too_many : too_many h.variables h.clauses ≡ true → Gives (Err (refusal 16 h.start)) before
    unfolding read_rules header_rules chain
    read_too_many t = let p = header_found text e in rw p.1 (first_refuse _ _ before (header_rules text) later (rw (p.0, rw p.1 at t)))

    pub read_on : too_many h.variables h.clauses ≡ false → {answer : Result Tally Refusal} {after : List ℤ}
        → GivesWords (token_rules h.variables (tokens_from text h.next) ++ end_rules (length text) h.clauses (words_of (tokens_from text h.next)) (length before)) (words_of (tokens_from text h.next)) h.variables before answer after → Gives answer after
    unfolding read_rules header_rules chain
    read_on t j = let p = header_found text e in goes_on _ _ before (header_rules text) later (rw (p.0, rw p.1 at t)) (rw p.1 at j)
