-- The clause text of a diagram's list, as demand 2 says: for any edition whose counts keep the limits of clause text, and so
-- for edition 1. Assumes nothing.
use mathlib.Core.Path.{◌≡◌, refl, sym, ◌∙◌, ap, subst}
use mathlib.Core.List.{List, ◌++◌}
use Prim.Native.Nat.{ℕ}
use native.Mathlib.Omega.{arith}
use lib.IntN.{ℤ}
use lib.ListN.{length, take}
use Rattle.lists.proofs.BufferLaws.{over_parts}
use Rattle.diagram.specs.Lent.{Lent}
use Rattle.diagram.specs.Sound.{Sound}
use Rattle.cnf.specs.Clause.{words}
use Rattle.cnf.specs.Words.{zeros, NoZeros}
use Rattle.cnf.specs.Encoded.{tally_of, tally_same}
use Rattle.cnf.specs.Lent.{LimitsKept, WellWords}
use Rattle.cnf.specs.declared.Tally.{Tally}
use Rattle.cnf.specs.declared.Encoded.TheVariants.{Written}
use Rattle.cnf.specs.declared.EncodeAnswer.{EncodeAnswer}
use Rattle.cnf.proofs.WordsLaws.{clauses_no_zero}
use Rattle.cnf.proofs.EncodedLaws.{written_exactly, written_list}
use Rattle.clauses.specs.Clauses.{Edition, edition1, last_variable, clauses}
use Rattle.clauses.specs.Editions.{OwnVariables}
use Rattle.clauses.proofs.Edition1.{edition1_own}
use Rattle.clauses.proofs.WellListed.{in_range, well_listed, edition1_limits}
use Rattle.encoding.specs.Promise.{encode_rules, EncodePromise}
use Rattle.dimacs.specs.Text.{body, header_line, text_of}
use Rattle.dimacs.specs.Write.{WritePromise}
use Rattle.dimacs.specs.Read.{tally_read}
use Rattle.dimacs.specs.declared.TextRead.TheVariants.{Read}
use Rattle.dimacs.proofs.BodyLaws.{one_line_a_clause, text_bytes}
use Rattle.dimacs.proofs.WriteLaws.{written_exactly as text-written, written_text}
use Rattle.dimacs.proofs.RoundTrip.{gives_back}
use Rattle.demands.specs.Demand2.{WellFormed, TextRoundTrip}
use Rattle.demands.proofs.Demand2.{well_formed}

module _ (e : Edition) (d : Lent) (own : OwnVariables e) (s : Sound d) (limits : LimitsKept (last_variable e d) (words (clauses e d))) where
  abbrev ws : List ℤ
  ws = words (clauses e d)

  abbrev v : ℕ
  v = last_variable e d

  f : WellFormed e d
  f = well_formed e own d s

  no_zeros : NoZeros (clauses e d)
  no_zeros = subst NoZeros f.told_back (clauses_no_zero ws)

  -- what `encode` has written: the list's own words and counts
  module _ (before after : List ℤ) (encoded : EncodeAnswer) (t : Tally) (p : EncodePromise e d before encoded after) (q : encoded.outcome ≡ Written t) where
    counts_own : t ≡ tally_of (clauses e d) v
    counts_own = ((written_exactly (clauses e d) v before (encode_rules e d (length before)) encoded after p t).0 q).1

    its_words : take t.words after ≡ ws
    its_words = (written_list (clauses e d) v before (encode_rules e d (length before)) encoded after p t q).0

    its_last : t.variables ≡ v
    its_last = ap (λ (t : Tally). t.variables) counts_own

    is_well : WellWords t.variables (take t.words after)
    is_well = rw (its_words, its_last) (well_listed e d own s limits)

    -- as it is counted when it comes back
    counted : tally_read (take t.words after) t.variables ≡ t
    counted = tally_same _ _ _ _ _ _ (ap length its_words) (ap zeros its_words ∙ f.one_zero_each) its_last ∙ sym counts_own

    many : length (take t.words after) ≡ t.words
    many = ap (λ (t : Tally). t.words) counted

  pub round_trip : TextRoundTrip e d
  unfolding text_of
  round_trip =
      record {
        the_text = ap (λ (k : ℕ). header_line v k ++ body ws) f.one_zero_each ∙ ap (λ (l : List ℕ). header_line v (length (clauses e d)) ++ l) (one_line_a_clause (clauses e d) no_zeros);
        its_bytes = text_bytes v ws (omega (arith, limits.counts.variables)) (omega (arith, limits.counts.clause_count)) (λ w m. omega (arith, in_range e d own s w m, limits.counts.variables));
        accepted = λ before after encoded t p q page page' answer j h.
            let o = subst (λ (u : ℕ). WritePromise u ws page answer page') (its_last before after encoded t p q) (subst (λ (l : List ℤ). WritePromise t.variables l page answer page') (its_words before after encoded t p q) j) in
            let a = (text-written v ws page answer page' o _).1 (well_listed e d own s limits, h, refl) in
            (a, (written_text v ws page answer page' o _ a).0);
        given_back = λ before after encoded t p q page page' answer n j k lent list read r h.
            let m = many before after encoded t p q in
            let w = gives_back t.variables (take t.words after) page page' answer n j k lent list read r (omega (arith, m, h)) in
            let o = over_parts (take t.words after) lent (sym m) w.1 in
            (w.0 ∙ ap Read (counted before after encoded t p q), o.0, o.1);
      }

-- in edition 1, by the maxima
pub edition1_round_trip : (d : Lent) → Sound d → TextRoundTrip edition1 d
edition1_round_trip d s = round_trip edition1 d edition1_own s (edition1_limits d s)
