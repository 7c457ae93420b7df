-- How code comes to what it says of a header's line, part by part; and what its answer tells. Assumes nothing.
use Rattle.std.specs.Prelude.{Option, Some, None, Ok, Err}
use mathlib.Core.Path.{◌≡◌, refl, sym, ◌∙◌, ap}
use mathlib.Core.Bool.{Bool, true, false, cond}
use mathlib.Core.List.{List}
use Prim.Native.Nat.{ℕ, ◌+◌}
use Rattle.std.specs.Option.{ok_or}
use Rattle.decimal.specs.Bytes.{line_feed, has_at}
use Rattle.decimal.specs.Reading.{reading_at, field_of}
use Rattle.decimal.specs.declared.Reading.{Reading}
use Rattle.decimal.proofs.FieldLaws.{Field, field_found, field_missing}
use Rattle.refusal.specs.Rules.{refusal}
use Rattle.refusal.specs.declared.Refusal.{Refusal}
use Rattle.dimacs.specs.Text.{head, space}
use Rattle.dimacs.specs.Header.{variables_at, is_header}
use Rattle.dimacs.specs.Rules.{header_start}
use Rattle.text_header.specs.Header.{header_said, header_at, header_of}
use Rattle.text_header.specs.declared.Header.{Header}

-- ---- how it comes to it: the line at `at`, by its parts

module _ (text : List ℕ) (at : ℕ) where
  pub no_head : has_at text at head ≡ false → header_at text at ≡ None
  unfolding header_at is_header
  no_head e = rw e

  module _ (h : has_at text at head ≡ true) {first : Option Reading} (r : first ≡ reading_at text (at + 6)) where
    pub no_variables : None ≡ field_of text first space → header_at text at ≡ None
    unfolding header_at is_header
    no_variables n = rw (h, field_missing text (at + 6) space r n)

    module _ {v : Reading} (f : Some v ≡ field_of text first space) {second : Option Reading} (q : second ≡ reading_at text (v.end + 1)) where
      found : Field text (at + 6) space v
      found = field_found text (at + 6) space r f

      there : second ≡ reading_at text ((variables_at text at).end + 1)
      there = q ∙ ap (λ (x : Reading). reading_at text (x.end + 1)) found.said

      pub no_clauses : None ≡ field_of text second line_feed → header_at text at ≡ None
      unfolding header_at is_header
      no_clauses n = rw (h, found.stands, field_missing text ((variables_at text at).end + 1) line_feed there n)

      pub all_parts : {k : Reading} → Some k ≡ field_of text second line_feed → Some (record { start = at; variables = v.value; clauses = k.value; next = k.end + 1 }) ≡ header_at text at
      unfolding header_at is_header
      all_parts g = let c = field_found text ((variables_at text at).end + 1) line_feed there g in rw (found.said, c.said) (sym (rw (h, found.stands, c.stands)))

-- where the comment lines end, or number 17
pub header_or_17 : (text : List ℕ) (at : ℕ) → at ≡ header_start text → ok_or (header_at text at) (refusal 17 at) ≡ header_of text
unfolding header_at header_of
header_or_17 text at e = rw e (go (is_header text (header_start text)))
  where
    go : (b : Bool) → ok_or (cond b (Some (header_said text (header_start text))) None) (refusal 17 (header_start text)) ≡ cond b (Ok (header_said text (header_start text))) (Err (refusal 17 (header_start text)))
    go true = refl
    go false = refl

-- ---- what the answer tells

module _ (text : List ℕ) where
  pub header_missing : {r : Refusal} → header_of text ≡ Err r → (is_header text (header_start text) ≡ false) × (r ≡ refusal 17 (header_start text))
  unfolding header_of
  header_missing {r} e = go (is_header text (header_start text)) e
    where
      go : (b : Bool) → cond b (Ok (header_said text (header_start text))) (Err (refusal 17 (header_start text))) ≡ Err r → (b ≡ false) × (r ≡ refusal 17 (header_start text))
      go true q = (cc, cc)
      go false q = (refl, cc)

  -- there is one: all that it says
  pub header_found : {h : Header} → header_of text ≡ Ok h → (is_header text (header_start text) ≡ true) × (h ≡ header_said text (header_start text))
  unfolding header_of
  header_found {h} e = go (is_header text (header_start text)) e
    where
      go : (b : Bool) → cond b (Ok (header_said text (header_start text))) (Err (refusal 17 (header_start text))) ≡ Ok h → (b ≡ true) × (h ≡ header_said text (header_start text))
      go true q = (refl, cc)
      go false q = (cc, cc)
