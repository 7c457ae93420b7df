-- Laws of the functions inside `judge_file`: how they come to the rules of some lines, of a part, and of the file. Assumes
-- nothing.
use mathlib.Core.Path.{◌≡◌, refl, sym, ap, ◌∙◌}
use mathlib.Core.Bool.{Bool, true, false, not}
use mathlib.Core.List.{List, [], ◌∷◌}
use Prim.Native.Nat.{ℕ, ◌+◌, ◌≤◌, ◌<◌}
use native.Mathlib.Omega.{arith}
use lib.ListN.{length}
use borrow.Author.Tests.{le-leb, lt-leb, le-ltb, lt-ltb}
use Rattle.std.specs.Prelude.{Option, Some, None, Result, Ok, Err}
use Rattle.std.specs.Option.{ok_or}
use Rattle.lists.specs.First.{first}
use Rattle.lists.proofs.FirstLaws.{start, pass, stop, done}
use Rattle.refusal.specs.Rules.{Verdict, Rule, rule, refusal, chain}
use Rattle.refusal.specs.declared.Refusal.{Refusal}
use Rattle.diagram_file.specs.Lines.{one_line, line_start, line_at, formed, value_of}
use Rattle.diagram_file.specs.Rules.{misformed, lines_rule, part_rules, end_rules}
use Rattle.diagram_file.specs.declared.Line.{Line}
use Rattle.diagram_file.proofs.LineLaws.{line_none, LineRead, line_read}
use Rattle.file_judge.specs.Judged.{Stands, Judged}
use Rattle.file_judge.specs.declared.Cursor.{Cursor}

-- ---- a line at a cursor

abbrev pub cursor : ℕ → ℕ → Cursor
cursor at line = record { at = at; line = line }

-- the first line
pub start_stands : (text : List ℕ) → Stands text (cursor 0 0)
unfolding line_start
start_stands text = record { begins = refl; inside = omega arith; few = omega arith }

-- what is read there: a line that has the form, or none
pub line_found : (text key : List ℕ) → one_line key ≡ true → {here : Cursor} → Stands text here → (l : Line) → Ok l ≡ ok_or (line_at text key here.at) (refusal 20 (here.line + 1)) → LineRead text key here.line l
line_found text key one {here} s l e = line_read text key one here.line here.at s.begins l (go (line_at text key here.at) e)
  where
    go : (o : Option Line) → Ok l ≡ ok_or o (refusal 20 (here.line + 1)) → Some l ≡ o
    go (Some x) k = cc
    go None k = cc

pub line_missed : (text key : List ℕ) {here : Cursor} → Stands text here → (r : Refusal) → Err r ≡ ok_or (line_at text key here.at) (refusal 20 (here.line + 1)) → (formed text key here.line ≡ false) × (r ≡ refusal 20 (here.line + 1))
line_missed text key {here} s r e = let w = go (line_at text key here.at) e in (line_none text key (line_start text here.line) (w.0 ∙ ap (line_at text key) s.begins), w.1)
  where
    go : (o : Option Line) → Err r ≡ ok_or o (refusal 20 (here.line + 1)) → (None ≡ o) × (r ≡ refusal 20 (here.line + 1))
    go (Some x) k = cc
    go None k = (refl, cc)

-- the next line
pub stands_next : {text key : List ℕ} {here : Cursor} → Stands text here → {l : Line} → LineRead text key here.line l → Stands text (cursor l.next (here.line + 1))
stands_next s r = record { begins = r.next; inside = r.inside; few = omega (arith, r.further, s.few, s.begins) }

-- ---- lines one after the other

-- j lines have been passed from the one at `from` on, which all have the form, and `here` is past them
pub record Walking (text key : List ℕ) (from here : Cursor) (j : ℕ) : Type 0 where
  pub stands : Stands text here
  pub counted : here.line ≡ from.line + j
  pub passed : first (λ i. misformed text key (from.line + i)) j ≡ None

pub walk_none : {text key : List ℕ} {from : Cursor} → Stands text from → Walking text key from from 0
walk_none s = record { stands = s; counted = omega arith; passed = start _ }

module _ {text key : List ℕ} {from here : Cursor} {j : ℕ} (w : Walking text key from here j) where
  there : {b : Bool} → formed text key here.line ≡ b → misformed text key (from.line + j) ≡ not b
  there e = ap not (ap (formed text key) (sym w.counted) ∙ e)

  pub walk_more : {l : Line} → LineRead text key here.line l → Walking text key from (cursor l.next (here.line + 1)) (j + 1)
  walk_more r = record {
    stands = stands_next w.stands r;
    counted = omega (arith, w.counted);
    passed = pass (λ i. misformed text key (from.line + i)) j w.passed (there r.has_form);
  }

  -- the line at `here` has not the form
  pub walk_stops : (count : ℕ) → j < count → {r : Refusal} → (formed text key here.line ≡ false) × (r ≡ refusal 20 (here.line + 1)) → Judged text (lines_rule text key from.line count ∷ []) (from.line + count) (Err r)
  unfolding chain
  walk_stops count h e =
      let s = stop (λ i. misformed text key (from.line + i)) j count w.passed (there e.0) h in
      let p : from.line + 1 + j ≡ here.line + 1 = omega (arith, w.counted) in
      rw (e.1, ← s, p)

-- all lines have been passed
pub walk_all : {text key : List ℕ} {from here : Cursor} {j : ℕ} → Walking text key from here j → (count : ℕ) → j ≤ count → count ≤ j → Judged text (lines_rule text key from.line count ∷ []) (from.line + count) (Ok here)
unfolding chain
walk_all {text} {key} {from} w count h l = (rw (← done (λ i. misformed text key (from.line + i)) _ count w.passed h l), w.stands, omega (arith, w.counted))

-- ---- rules that say the same

judged_as_lem : (text : List ℕ) (rules rules' : List Rule) {k k' : ℕ} (a : Result Cursor Refusal) → chain rules ≡ chain rules' → k ≡ k' → Judged text rules k a → Judged text rules' k' a
judged_as_lem text rules rules' (Err r) p q j = sym p ∙ j
judged_as_lem text rules rules' (Ok next) p q j = (sym p ∙ j.0, j.1, j.2 ∙ q)

-- ---- a part: its first line, and those that it counts

module _ (text key later : List ℕ) (from : Cursor) (most : ℕ) where
  pub part_misformed : {r : Refusal} → (formed text key from.line ≡ false) × (r ≡ refusal 20 (from.line + 1)) → Judged text (part_rules text key later from.line most) (from.line + 1 + value_of text key from.line) (Err r)
  unfolding part_rules chain
  part_misformed e = rw (e.1, e.0)

  module _ {l : Line} (r : LineRead text key from.line l) where
    pub part_large : most < l.value → Judged text (part_rules text key later from.line most) (from.line + 1 + value_of text key from.line) (Err (refusal 21 (from.line + 1)))
    unfolding part_rules chain
    part_large h = rw (r.has_form, ← r.gives, lt-ltb most l.value h)

    -- the later lines decide
    pub part_lines : l.value ≤ most → (a : Result Cursor Refusal) → Judged text (lines_rule text later (from.line + 1) l.value ∷ []) (from.line + 1 + l.value) a → Judged text (part_rules text key later from.line most) (from.line + 1 + value_of text key from.line) a
    unfolding part_rules chain
    part_lines h a j = judged_as_lem text (lines_rule text later (from.line + 1) l.value ∷ []) (part_rules text key later from.line most) a (rw (r.has_form, ← r.gives, le-ltb most l.value h)) (ap (λ (n : ℕ). from.line + 1 + n) r.gives) j

-- ---- the end

module _ {text : List ℕ} {end : Cursor} (s : Stands text end) where
  pub end_trails : end.at < length text → {v : Verdict} → v ≡ chain (rule 20 (Some (end.line + 1)) ∷ []) → v ≡ chain (end_rules text end.line)
  unfolding chain
  end_trails h q = q ∙ rw (← s.begins, lt-leb (length text) end.at h)

  pub end_none : length text ≤ end.at → (Ok tt) ≡ chain (end_rules text end.line)
  unfolding chain
  end_none h = rw (← s.begins, le-leb (length text) end.at h)
