-- Laws of a clause text's header: it is read exactly where its line stands, and the writer writes such a line. Assumes
-- nothing.
use mathlib.Core.Path.{◌≡◌, refl, sym, ap, ◌∙◌}
use mathlib.Core.Bool.{true, and-eq-true_iff}
use mathlib.Core.List.{List, ◌∷◌, ◌++◌, append_assoc}
use Prim.Native.Nat.{ℕ, ◌+◌, ◌^◌, ◌<◌}
use lib.IntN.{ℤ}
use lib.ListN.{length, drop}
use lib.Seq.{drop-drop}
use Rattle.decimal.specs.Digits.{is_digit, value, digits}
use Rattle.decimal.specs.Bytes.{line_feed, has_at}
use Rattle.decimal.specs.Reading.{run, cut, decimal_at, reading_at, field_at}
use Rattle.decimal.proofs.DigitsLaws.{digits_decimal}
use Rattle.decimal.proofs.BytesLaws.{starts_with_lem, with_start}
use Rattle.decimal.proofs.FieldLaws.{field_read, read_field, field_splits}
use Rattle.cnf.specs.Words.{zeros}
use Rattle.dimacs.specs.Text.{head, space, body, header_line, text_of}
use Rattle.dimacs.specs.Header.{comments, HeaderLine, variables_at, clauses_at, is_header, after_header}
use Rattle.dimacs.specs.Rules.{header_start}

-- ---- the line

-- what is read of a header's line at `at`
pub record HeaderSays (text : List ℕ) (at : ℕ) (ds es rest : List ℕ) : Type 0 where
  pub is_header_lem : is_header text at ≡ true
  pub variables : (variables_at text at).value ≡ cut (value ds)
  pub clauses : (clauses_at text at).value ≡ cut (value es)
  pub after : after_header text at ≡ at + 6 + length ds + 1 + length es + 1
  pub left : drop (after_header text at) text ≡ rest

module _ (text : List ℕ) (at : ℕ) where
  -- it is read where the line stands; and the line stands where it is read
  pub line_header : (ds es rest : List ℕ) → HeaderLine (drop at text) ds es rest → HeaderSays text at ds es rest
  unfolding is_header is_digit
  line_header ds es rest h =
      let k : has_at text at head ≡ true = rw h.line (with_start head _) in
      let e : drop (at + 6) text ≡ ds ++ (space ∷ (es ++ (line_feed ∷ rest))) = sym (drop-drop 6 at text) ∙ ap (drop 6) h.line in
      let v = field_read text (at + 6) space ds (es ++ (line_feed ∷ rest)) h.variables refl e in
      let c = field_read text (at + 6 + length ds + 1) line_feed es rest h.clauses refl v.2 in
      record {
        is_header_lem = rw (k, v.0, h.variables, v.1, c.0, h.clauses, c.1);
        variables = rw v.0;
        clauses = rw (v.0, c.0);
        after = rw (v.0, c.0);
        left = rw (v.0, c.0, c.2);
      }

  pub header_line_lem : is_header text at ≡ true → (ds : List ℕ) × (es : List ℕ) × (rest : List ℕ) × HeaderLine (drop at text) ds es rest × HeaderSays text at ds es rest
  unfolding is_header
  header_line_lem h =
      let a = (and-eq-true_iff (has_at text at head) _).0 h in
      let f = (and-eq-true_iff (field_at text (reading_at text (at + 6)) space) _).0 a.1 in
      let b = (and-eq-true_iff (decimal_at text (at + 6)) _).0 (sym (field_splits text (at + 6) space) ∙ f.0) in
      let d = (and-eq-true_iff (decimal_at text ((variables_at text at).end + 1)) _).0 (sym (field_splits text ((variables_at text at).end + 1) line_feed) ∙ f.1) in
      let ds : List ℕ = run (drop (at + 6) text) in
      let es : List ℕ = run (drop ((variables_at text at).end + 1) text) in
      let rest : List ℕ = drop (after_header text at) text in
      let v : drop (at + 6) text ≡ ds ++ (space ∷ (es ++ (line_feed ∷ rest)))
      = read_field text (at + 6) space b.1 ∙ ap (λ (l : List ℕ). ds ++ (space ∷ l)) (read_field text ((variables_at text at).end + 1) line_feed d.1) in
      let l : HeaderLine (drop at text) ds es rest
      = record { line = starts_with_lem head (drop at text) a.0 ∙ ap (λ (l : List ℕ). head ++ l) (drop-drop 6 at text ∙ v); variables = b.0; clauses = d.0 } in
      (ds, es, rest, l, line_header ds es rest l)

-- ---- the text that is written

module _ (v : ℕ) (ws : List ℤ) where
  -- it begins with its header
  pub no_comments : header_start (text_of v ws) ≡ 0
  unfolding comments text_of header_line
  no_comments = refl

  pub text_header : v < 10 ^ 20 → zeros ws < 10 ^ 20 → HeaderLine (text_of v ws) (digits v) (digits (zeros ws)) (body ws)
  unfolding text_of header_line
  text_header h k = record { line = simp append_assoc; variables = digits_decimal v h; clauses = digits_decimal (zeros ws) k }
