-- A part of a file that is not refused is filled in with the file's values; and how `read_diagram` comes to its answer.
-- Assumes nothing.
use Rattle.std.specs.Prelude.{Option, Some, None, Ok, Err}
use mathlib.Core.Path.{◌≡◌, refl, sym, ap, ◌∙◌}
use mathlib.Core.Bool.{true}
use mathlib.Core.List.{List, [], ◌∷◌, ◌++◌}
use Prim.Native.Nat.{ℕ, zero, suc, ◌+◌, ◌≤◌}
use native.Mathlib.Numerals.{add-one}
use native.Mathlib.Omega.{arith}
use lib.ListN.{length, take, drop, set}
use Rattle.std.proofs.lemmas.List.{length-take-le}
use borrow.Author.Tests.{not-false, ltb-false}
use Rattle.lists.specs.Upto.{up_to}
use Rattle.lists.specs.Buffer.{over, Wrote}
use Rattle.lists.specs.First.{first, counted_from}
use Rattle.lists.proofs.UptoLaws.{list_singles, list_same}
use Rattle.lists.proofs.FirstLaws.{if_none, none_bad}
use Rattle.lists.proofs.BufferLaws.{over_all, put, kept, wrote_as, written, begin, turn, finish}
use Rattle.refusal.specs.Rules.{chain}
use Rattle.refusal.specs.declared.Refusal.{Refusal}
use Rattle.refusal.proofs.RulesLaws.{passed, not_due}
use Rattle.refusal.proofs.AnsweredLaws.{by_refusal, by_result}
use Rattle.diagram.specs.Lent.{Lent, lent}
use Rattle.diagram_file.specs.Lines.{one_line, line_start, line_said, line_at, formed, value_of}
use Rattle.diagram_file.specs.File.{options_key, domain_key, nodes_key, layer_key, edges_key, to_key, option_count, nodes_line, node_count, edges_line, edge_count, values_after, file_diagram}
use Rattle.diagram_file.specs.Rules.{misformed, part_rules, file_rules}
use Rattle.diagram_file.specs.Promise.{sizes, sizes_said, sizes_of, file_said, room_of, over_lent, FilePromise, sizes_same}
use Rattle.diagram_file.specs.declared.Sizes.{Sizes}
use Rattle.diagram_file.specs.declared.Line.{Line}
use Rattle.diagram_file.specs.declared.FileRead.TheVariants.{Read, Refused}
use Rattle.diagram_file.proofs.LineLaws.{line_read}
use Rattle.file_reader.specs.Filled.{line_or_none, place_after, values_read, PartFilled}
use Rattle.file_reader.specs.declared.Filled.{Filled}

-- ---- lines read one after the other

-- the values of the first j lines read from `from` on are stored, and `here` is past these
pub record Filling (text key : List ℕ) (from : ℕ) (before : List ℕ) (j here : ℕ) (now : List ℕ) : Type 0 where
  pub place : here ≡ place_after text key from j
  pub stored : Wrote before 0 (values_read text key from j) now j

pub fill_none : (text key : List ℕ) (from : ℕ) (before : List ℕ) → Filling text key from before 0 from before
unfolding place_after values_read
fill_none text key from before = record { place = refl; stored = begin _ }

module _ {text key : List ℕ} {from : ℕ} {before : List ℕ} {j here : ℕ} {now : List ℕ} (w : Filling text key from before j here now) where
  pub fill_more : (l : Line) → l ≡ line_or_none text key here → Filling text key from before (j + 1) l.next (set now j l.value)
  unfolding place_after values_read
  fill_more l e =
      let q : l ≡ line_or_none text key (place_after text key from j) = e ∙ ap (line_or_none text key) w.place in
      record {
        place = rw (add-one j) (ap (λ (l : Line). l.next) q);
        stored = turn _ w.stored (wrote_as (put now j l.value) (ap (λ (l : Line). l.value ∷ []) q));
      }

-- as many lines as the front of a list has room for
pub fill_all : {text key : List ℕ} {from n : ℕ} (before : List ℕ) {j here : ℕ} {now : List ℕ} → n ≤ length before → Filling text key from (take n before) j here now → j ≤ length (take n before) → length (take n before) ≤ j → (here ≡ place_after text key from n) × (now ++ drop n before ≡ over (values_read text key from n) before)
unfolding values_read over
fill_all {text} {key} {from} {n} before {j} {here} {now} r w h k =
    let l : length (take n before) ≡ n = length-take-le n before r in
    let e : j ≡ n = omega (arith, kept w.stored) in
    let m : length (values_read text key from n) ≡ n = list_singles n (λ i. (line_or_none text key (place_after text key from i)).value) in
    let v : now ≡ values_read text key from n = written (omega arith) (finish _ w.stored (omega (arith, e)) (omega (arith, e))) ∙ over_all _ _ (omega arith) in
    (w.place ∙ ap (place_after text key from) e, rw (v, m))

-- the line that counts them is read first
pub fill_part : (text key later : List ℕ) (at : ℕ) (before : List ℕ) (h : Line) → h ≡ line_or_none text key at → (here : ℕ) (now : List ℕ) → (here ≡ place_after text later h.next h.value) × (now ≡ over (values_read text later h.next h.value) before)
    → PartFilled text key later at before (record { count = h.value; next = here }) now
fill_part text key later at before h e here now w = record {
  counts = ap (λ (l : Line). l.value) e;
  ends = w.0 ∙ ap (λ (l : Line). place_after text later l.next l.value) e;
  list = w.1 ∙ ap (λ (l : Line). over (values_read text later l.next l.value) before) e;
}

-- a line that has the form is the file's
module _ (text key : List ℕ) (k : ℕ) (f : formed text key k ≡ true) where
  there : line_or_none text key (line_start text k) ≡ line_said text key (line_start text k)
  unfolding line_at
  there = rw f

  line_value : (line_or_none text key (line_start text k)).value ≡ value_of text key k
  unfolding value_of
  line_value = ap (λ (l : Line). l.value) there

  line_next : one_line key ≡ true → (line_or_none text key (line_start text k)).next ≡ line_start text (k + 1)
  unfolding line_at
  line_next one = (line_read text key one k (line_start text k) refl (line_or_none text key (line_start text k)) (rw f)).next

-- where the lines from line k on have the form, these are the file's lines
module _ (text key : List ℕ) (one : one_line key ≡ true) (k count : ℕ) (f : first (λ j. misformed text key (k + j)) count ≡ None) where
  has_form : (j : ℕ) → j + 1 ≤ count → formed text key (k + j) ≡ true
  has_form j h = not-false _ (none_bad (λ j. misformed text key (k + j)) count f j (omega arith))

  pub places : (j : ℕ) → j ≤ count → place_after text key (line_start text k) j ≡ line_start text (k + j)
  unfolding place_after
  places zero h = let e : k + 0 ≡ k = omega arith in rw e
  places (suc j) h =
      let e : k + suc j ≡ k + j + 1 = omega arith in
      ap (λ (i : ℕ). (line_or_none text key i).next) (places j (omega arith)) ∙ line_next text key (k + j) (has_form j (omega arith)) one ∙ ap (line_start text) (sym e)

  pub values : values_read text key (line_start text k) count ≡ up_to count (λ j. value_of text key (k + j) ∷ [])
  unfolding values_read
  values = list_same _ _ count (λ j h. ap (λ (v : ℕ). v ∷ []) (ap (λ (i : ℕ). (line_or_none text key i).value) (places j (omega arith)) ∙ line_value text key (k + j) (has_form j (omega arith))))

-- ---- a part that is not refused

none_counted : (m : ℕ) (f : Option ℕ) → counted_from m f ≡ None → f ≡ None
none_counted m None e = refl
none_counted m (Some k) e = cc

-- what is filled in of the part at line k, and where the next part begins
pub record PartIs (text key later : List ℕ) (k : ℕ) (before : List ℕ) (r : Filled) (after : List ℕ) : Type 0 where
  pub counts : r.count ≡ value_of text key k
  pub ends : r.next ≡ line_start text (k + 1 + value_of text key k)
  pub list : after ≡ over (values_after text later k (value_of text key k)) before

module _ (text key later : List ℕ) (k most : ℕ) (p : chain (part_rules text key later k most) ≡ Ok tt) where
  pub record Passes : Type 0 where
    pub is_formed : formed text key k ≡ true
    pub room : value_of text key k ≤ most
    pub all_formed : first (λ j. misformed text later (k + 1 + j)) (value_of text key k) ≡ None

  pub part_passes : Passes
  unfolding part_rules
  part_passes =
      let a = not_due 20 _ _ p in
      let b = not_due 21 _ _ a.1 in
      let c = not_due 20 _ _ b.1 in
      record {
        is_formed = not-false _ (if_none _ (k + 1) a.0);
        room = ltb-false most (value_of text key k) (if_none _ (k + 1) b.0);
        all_formed = none_counted (k + 1 + 1) _ c.0;
      }

  module _ (at : ℕ) (e : at ≡ line_start text k) where
    part_count : (line_or_none text key at).value ≡ value_of text key k
    part_count = ap (λ (i : ℕ). (line_or_none text key i).value) e ∙ line_value text key k part_passes.is_formed

    pub part_room : (line_or_none text key at).value ≤ most
    part_room = omega (arith, part_count, part_passes.room)

    pub part_filled : one_line key ≡ true → one_line later ≡ true → (before : List ℕ) (r : Filled) (after : List ℕ) → PartFilled text key later at before r after → PartIs text key later k before r after
    unfolding values_after
    part_filled one one' before r after w =
        let s : (line_or_none text key at).next ≡ line_start text (k + 1) = ap (λ (i : ℕ). (line_or_none text key i).next) e ∙ line_next text key k part_passes.is_formed one in
        let g = part_passes.all_formed in
        record {
          counts = w.counts ∙ part_count;
          ends = w.ends ∙ rw (s, part_count) (places text later one' (k + 1) (value_of text key k) g (value_of text key k) (omega arith));
          list = w.list ∙ rw (s, part_count) (ap (λ (l : List ℕ). over l before) (values text later one' (k + 1) (value_of text key k) g));
        }

-- ---- the answer

pub parts_pass : (text : List ℕ) (most : Sizes) → chain (file_rules text most) ≡ Ok tt
    → (chain (part_rules text options_key domain_key 0 most.options) ≡ Ok tt) × (chain (part_rules text nodes_key layer_key (nodes_line text) most.nodes) ≡ Ok tt) × (chain (part_rules text edges_key to_key (edges_line text) most.edges) ≡ Ok tt)
unfolding file_rules
parts_pass text most p = let a = passed _ _ p in let b = passed _ _ a.1 in (a.0, b.0, (passed _ _ b.1).0)

-- the three parts one after the other, where the file is not refused
module _ (text : List ℕ) (before : Lent) (p : chain (file_rules text (room_of before)) ≡ Ok tt) where
  pub options_room : (line_or_none text options_key 0).value ≤ length before.domains
  unfolding line_start
  options_room = part_room text options_key domain_key 0 _ (parts_pass text (room_of before) p).0 0 refl

  pub options_filled : {r : Filled} {after : List ℕ} → PartFilled text options_key domain_key 0 before.domains r after → PartIs text options_key domain_key 0 before.domains r after
  unfolding one_line line_start
  options_filled {r} {after} w = part_filled text options_key domain_key 0 _ (parts_pass text (room_of before) p).0 0 refl refl refl _ r after w

  module _ {r : Filled} {after : List ℕ} (o : PartIs text options_key domain_key 0 before.domains r after) where
    pub nodes_room : (line_or_none text nodes_key r.next).value ≤ length before.layers
    nodes_room = part_room text nodes_key layer_key (nodes_line text) _ (parts_pass text (room_of before) p).1 _ o.ends

    pub nodes_filled : {s : Filled} {later : List ℕ} → PartFilled text nodes_key layer_key r.next before.layers s later → PartIs text nodes_key layer_key (nodes_line text) before.layers s later
    unfolding one_line
    nodes_filled {s} {later} w = part_filled text nodes_key layer_key (nodes_line text) _ (parts_pass text (room_of before) p).1 _ o.ends refl refl _ s later w

  module _ {r : Filled} {after : List ℕ} (n : PartIs text nodes_key layer_key (nodes_line text) before.layers r after) where
    pub edges_room : (line_or_none text edges_key r.next).value ≤ length before.targets
    edges_room = part_room text edges_key to_key (edges_line text) _ (parts_pass text (room_of before) p).2 _ n.ends

    pub edges_filled : {s : Filled} {later : List ℕ} → PartFilled text edges_key to_key r.next before.targets s later → PartIs text edges_key to_key (edges_line text) before.targets s later
    unfolding one_line
    edges_filled {s} {later} w = part_filled text edges_key to_key (edges_line text) _ (parts_pass text (room_of before) p).2 _ n.ends refl refl _ s later w

module _ (text : List ℕ) (before : Lent) where
  pub file_refused : {r : Refusal} → chain (file_rules text (room_of before)) ≡ Err r → FilePromise text before (record { outcome = Refused r }) before
  file_refused q = by_refusal file_said (sizes_said (sizes_of text)) (over_lent (file_diagram text) before) before refl q

  pub file_read : chain (file_rules text (room_of before)) ≡ Ok tt → (n s e : ℕ) → n ≡ option_count text → s ≡ node_count text → e ≡ edge_count text
      → (ds ls ts : List ℕ) → ds ≡ (over_lent (file_diagram text) before).domains → ls ≡ (over_lent (file_diagram text) before).layers → ts ≡ (over_lent (file_diagram text) before).targets
      → FilePromise text before (record { outcome = Read (sizes n s e) }) (lent ds ls ts)
  file_read q n s e p₁ p₂ p₃ ds ls ts l₁ l₂ l₃ =
      by_result file_said (sizes_said (sizes_of text)) (over_lent (file_diagram text) before) before
      (ap (λ (z : Sizes). file_said (Read z)) (sizes_same n s e (option_count text) (node_count text) (edge_count text) p₁ p₂ p₃))
      q
      (rw (l₁, l₂, l₃))
