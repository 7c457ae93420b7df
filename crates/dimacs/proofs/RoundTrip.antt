-- Whatever `write_text` accepts, `read_text` gives back: the same words, the same V and the same clause count. Assumes
-- nothing.
use Rattle.std.specs.Prelude.{Ok}
use mathlib.Core.Path.{◌≡◌, refl, sym, ◌∙◌, ap, subst}
use mathlib.Core.Bool.{false}
use mathlib.Core.List.{List}
use Prim.Native.Nat.{ℕ, ◌≤◌, ◌<◌, ◌^◌}
use native.Mathlib.Omega.{arith}
use lib.IntN.{ℤ, pos, nat_abs}
use lib.ListN.{length, drop}
use borrow.Author.Tests.{eq-eqb}
use Rattle.lists.specs.Buffer.{over}
use Rattle.lists.specs.Every.{Every}
use Rattle.lists.proofs.EveryLaws.{in_entry}
use Rattle.refusal.specs.Rules.{chain}
use Rattle.refusal.proofs.RulesLaws.{passes}
use Rattle.refusal.proofs.RoomLaws.{long_enough}
use Rattle.decimal.specs.Digits.{digits}
use Rattle.decimal.proofs.DigitsLaws.{value_digits}
use Rattle.cnf.specs.Lent.{WellWords}
use Rattle.cnf.specs.Words.{zeros}
use Rattle.cnf.proofs.LentLaws.{fit_counts}
use Rattle.dimacs.specs.Text.{body, text_of}
use Rattle.dimacs.specs.Tokens.{tokens, words_of}
use Rattle.dimacs.specs.Header.{variables_at, clauses_at, is_header, after_header}
use Rattle.dimacs.specs.Rules.{header_start, header_variables, header_clauses, text_tokens, text_words, token_rules, end_rules, header_rules, read_rules}
use Rattle.dimacs.specs.Read.{tally_read, ReadPromise}
use Rattle.dimacs.specs.RoundTrip.{GivesBack}
use Rattle.dimacs.specs.declared.ReadAnswer.{ReadAnswer}
use Rattle.dimacs.specs.declared.TextRead.TheVariants.{Read}
use Rattle.dimacs.proofs.HeaderLaws.{HeaderSays, line_header, no_comments, text_header}
use Rattle.dimacs.proofs.BodyLaws.{body_words, body_passes}
use Rattle.dimacs.proofs.WriteLaws.{written_exactly, written_text}
use Rattle.dimacs.proofs.ReadLaws.{read_passed}

module _ (v : ℕ) (ws : List ℤ) (w : WellWords v ws) where
  -- each word is in range
  ranged : Every (λ z. nat_abs z ≤ v) ws
  ranged z m = let e = in_entry (pos 0) ws m in subst (λ (x : ℤ). nat_abs x ≤ v) e.2 (w.in_range e.0 e.1)

  small : Every (λ z. nat_abs z < 10 ^ 20) ws
  small z m = omega (arith, ranged z m, w.limits.counts.variables)

  -- the header of the text says what it was made of
  abbrev text : List ℕ
  text = text_of v ws

  says : HeaderSays text 0 (digits v) (digits (zeros ws)) (body ws)
  says = line_header text 0 (digits v) (digits (zeros ws)) (body ws) (text_header v ws (omega (arith, w.limits.counts.variables)) (omega (arith, w.limits.counts.clause_count)))

  at_start : {A : Type 0} (f : ℕ → A) → f (header_start text) ≡ f 0
  at_start f = ap f (no_comments v ws)

  pub text_variables : header_variables text ≡ v
  text_variables =
      let e = value_digits v (omega (arith, w.limits.counts.variables)) in
      at_start (λ k. (variables_at text k).value) ∙ says.variables ∙ omega (arith, e, w.limits.counts.variables)

  pub text_clauses : header_clauses text ≡ zeros ws
  text_clauses =
      let e = value_digits (zeros ws) (omega (arith, w.limits.counts.clause_count)) in
      at_start (λ k. (clauses_at text k).value) ∙ says.clauses ∙ omega (arith, e, w.limits.counts.clause_count)

  -- its tokens are those of the words
  text_tokens_lem : text_tokens text ≡ tokens false (after_header text 0) (body ws)
  text_tokens_lem = at_start (λ k. tokens false (after_header text k) (drop (after_header text k) text)) ∙ rw says.left

  pub text_words_lem : text_words text ≡ ws
  text_words_lem = ap words_of text_tokens_lem ∙ body_words (after_header text 0) ws small

  -- and no rule is due
  header_passes : chain (header_rules text) ≡ Ok tt
  unfolding header_rules chain
  header_passes = rw (at_start (is_header text) ∙ says.is_header_lem, text_variables, text_clauses, fit_counts v (zeros ws) w.limits.counts)

  tokens_pass : chain (token_rules (header_variables text) (text_tokens text)) ≡ Ok tt
  tokens_pass = rw (text_variables, text_tokens_lem) (body_passes v (after_header text 0) ws (omega (arith, w.limits.counts.variables)) ranged)

  end_passes : (room : ℕ) → length ws ≤ room → chain (end_rules (length text) (header_clauses text) (text_words text) room) ≡ Ok tt
  unfolding end_rules chain
  end_passes room h = rw (text_words_lem, text_clauses, w.ends, eq-eqb (zeros ws) (zeros ws) refl) (long_enough (length ws) room h)

  pub text_passes : (room : ℕ) → length ws ≤ room → chain (read_rules text room) ≡ Ok tt
  unfolding read_rules
  text_passes room h =
      let later = passes (token_rules (header_variables text) (text_tokens text)) (end_rules (length text) (header_clauses text) (text_words text) room) (sym tokens_pass) refl (sym (end_passes room h)) in
      sym (passes (header_rules text) _ (sym header_passes) refl later)

  -- any outcome of reading it
  pub text_read : (lent list : List ℤ) (read : ReadAnswer) → ReadPromise text lent read list → length ws ≤ length lent → (read.outcome ≡ Read (tally_read ws v)) × (list ≡ over ws lent)
  text_read lent list read promise h =
      let q = text_passes (length lent) h in
      let t : tally_read (text_words text) (header_variables text) ≡ tally_read ws v = rw (text_words_lem, text_variables) in (
        (read_passed text lent read list promise (tally_read ws v)).1 (q, sym t),
        promise.buffer ∙ rw (q, text_words_lem),
      )

pub gives_back : (v : ℕ) (ws : List ℤ) → GivesBack v ws
gives_back v ws before page written n promise e lent list read read-promise h =
    let w = (written_exactly v ws before written page promise n).0 e in
    let t = (written_text v ws before written page promise n e).0 in
    text_read v ws w.0 lent list read (subst (λ (s : List ℕ). ReadPromise s lent read list) t read-promise) h
