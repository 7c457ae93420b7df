-- Laws of the functions inside `run`: what they learn from the diagram file, from the encoder and from the writer of clause
-- text, and how they come to what is printed. Assumes nothing.
use Rattle.std.specs.Prelude.{Ok, Err}
use mathlib.Core.Path.{◌≡◌, refl, sym, ap, ◌∙◌}
use mathlib.Core.List.{List}
use Prim.Native.Nat.{ℕ, ◌≤◌, ◌<◌}
use native.Mathlib.Omega.{arith}
use lib.IntN.{ℤ}
use lib.ListN.{length, take, length-take}
use borrow.Author.Tests.{le-ltb, lt-ltb}
use Rattle.lists.specs.Buffer.{over}
use Rattle.lists.proofs.BufferLaws.{over_parts}
use Rattle.refusal.specs.Rules.{Verdict, refusal, chain}
use Rattle.refusal.specs.declared.Refusal.{Refusal}
use Rattle.refusal.proofs.RulesLaws.{refuses, passes}
use Rattle.refusal.proofs.SaidLaws.{refused_as}
use Rattle.refusal.proofs.AnsweredLaws.{Told, told}
use Rattle.cnf.specs.Clause.{words}
use Rattle.cnf.specs.Encoded.{encoded_said, encoded_said_once}
use Rattle.cnf.specs.Lent.{WellWords}
use Rattle.cnf.specs.declared.Tally.{Tally}
use Rattle.cnf.specs.declared.Encoded.TheVariants as encoded
use Rattle.cnf.specs.declared.EncodeAnswer.{EncodeAnswer}
use Rattle.cnf.proofs.EncodedLaws.{written_list}
use Rattle.diagram.specs.Lent.{Lent, lent}
use Rattle.clauses.specs.Clauses.{edition1, clauses, last_variable}
use Rattle.clauses.proofs.WellListed.{edition1_listed}
use Rattle.encoding.specs.Promise.{encode_rules, EncodePromise}
use Rattle.encoding.proofs.EncodeLaws.{all_passed, encode_written}
use Rattle.dimacs.specs.Text.{text_of}
use Rattle.dimacs.specs.Write.{written_said, WritePromise}
use Rattle.dimacs.specs.declared.TextWritten.{TextWritten}
use Rattle.dimacs.specs.declared.WriteAnswer.{WriteAnswer}
use Rattle.dimacs.proofs.WriteLaws.{write_well}
use Rattle.diagram_file.specs.File.{file_diagram}
use Rattle.diagram_file.specs.Rules.{file_rules}
use Rattle.diagram_file.specs.Promise.{sizes_said, sizes_of, file_said, room_of, over_lent, FilePromise, file_said_once}
use Rattle.diagram_file.specs.declared.Sizes.{Sizes}
use Rattle.diagram_file.specs.declared.FileRead.TheVariants as file
use Rattle.diagram_file.specs.declared.FileAnswer.{FileAnswer}
use Rattle.diagram_file.proofs.ReadLaws.{file_lengths}
use Rattle.desk.specs.Output.{most_bytes, most_sizes, most_words, list_rules, lines_rules, desk_rules, diagram_text}
use Rattle.desk.specs.Promise.{desk_said, PrintedBy}
use Rattle.desk.specs.declared.DeskRun.{DeskRun}
use Rattle.desk.specs.declared.DeskAnswer.{DeskAnswer}

-- ---- the writer of clause text: its answer says what is answered

pub text_printed : (v : ℕ) (ws : List ℤ) (before : List ℕ) {answer : WriteAnswer} {after : List ℕ} → WellWords v ws → WritePromise v ws before answer after → (o : TextWritten) (a : DeskRun) → answer.outcome ≡ o → desk_said a ≡ written_said o
    → PrintedBy (Ok tt) (text_of v ws) before (record { outcome = a }) after
text_printed v ws before w p o a q e = let r = write_well v ws before w p in record { says = e ∙ ap written_said (sym q) ∙ r.says; buffer = r.buffer }

-- the same verdict and text, said in another way
pub printed_as : {v v' : Verdict} {text text' before : List ℕ} {a : DeskAnswer} {after : List ℕ} → v ≡ v' → text ≡ text' → PrintedBy v text before a after → PrintedBy v' text' before a after
printed_as p q w = rw (p, q) at w

-- the first n entries of a list, which are xs
pub record Begins {A : Type 0} (n : ℕ) (l xs : List A) : Type 0 where
  pub entries : take n l ≡ xs
  pub count : n ≡ length xs

-- they lie inside, and are as many when they are lent
pub begins_long : {A : Type 0} {n : ℕ} {l xs : List A} → Begins n l xs → (n ≤ length l) × (n ≡ length (take n l))
begins_long {n = n} {l = l} w = let e = ap length w.entries in (omega (arith, e, w.count, length-take n l), omega (arith, e, w.count))

-- ---- the encoder, in as many words as the program has

module _ (d : Lent) (before : List ℤ) (answer : EncodeAnswer) (after : List ℤ) (p : EncodePromise edition1 d before answer after) (room : length before ≡ most_words) where
  pub list_refused : (r : Refusal) → answer.outcome ≡ encoded.Refused r → Err r ≡ chain (list_rules d)
  list_refused r q = sym (ap (λ (n : ℕ). chain (encode_rules edition1 d n)) (sym room) ∙ (refused_as encoded_said encoded_said_once encoded.Refused (λ r. refl) answer.outcome (chain (encode_rules edition1 d (length before))) _ _ p.says r).0 q)

  pub record Listed (t : Tally) : Type 0 where
    pub passes_all : (Ok tt) ≡ chain (list_rules d)
    pub last : t.variables ≡ last_variable edition1 d
    pub the_words : Begins t.words after (words (clauses edition1 d))
    pub well : WellWords t.variables (take t.words after)

  pub listed : (t : Tally) → answer.outcome ≡ encoded.Written t → Listed t
  listed t q =
      let w = (encode_written edition1 d before answer after p t).0 q in
      let s = w.0.0 in
      let l = (written_list (clauses edition1 d) (last_variable edition1 d) before (encode_rules edition1 d (length before)) answer after p t q).0 in
      let v = ap (λ (t : Tally). t.variables) w.1 in
      record {
        passes_all = sym ((all_passed edition1 d most_words).1 (s, omega (arith, w.0.1, room)));
        last = v;
        the_words = record { entries = l; count = ap (λ (t : Tally). t.words) w.1 };
        well = rw (v, l) (edition1_listed d s);
      }

  pub listed_text : {t : Tally} → Listed t → text_of t.variables (take t.words after) ≡ diagram_text d
  listed_text l = rw (l.last, l.the_words.entries)

-- ---- the diagram file, in as much room as the program has

module _ (input : List ℕ) (before : Lent) (answer : FileAnswer) (after : Lent) (p : FilePromise input before answer after) (room : room_of before ≡ most_sizes) where
  file_verdict : chain (file_rules input (room_of before)) ≡ chain (file_rules input most_sizes)
  file_verdict = ap (λ (m : Sizes). chain (file_rules input m)) room

  pub file_refused : (r : Refusal) → answer.outcome ≡ file.Refused r → Err r ≡ chain (lines_rules input)
  file_refused r q =
      let e = sym ((refused_as file_said file_said_once file.Refused (λ r. refl) answer.outcome (chain (file_rules input (room_of before))) _ _ p.says r).0 q) ∙ file_verdict in
      refuses (file_rules input most_sizes) (list_rules (file_diagram input)) e refl

  tells : Told file_said file.Refused (file_rules input (room_of before)) (sizes_said (sizes_of input)) (over_lent (file_diagram input) before) before answer.outcome after
  tells = told file_said file_said_once file.Refused (λ r. refl) p

  -- the sizes are the file's, and the lists begin with its diagram; whatever is printed of that is printed
  pub record Filled (s : Sizes) : Type 0 where
    pub goes_on : chain (list_rules (file_diagram input)) ≡ chain (lines_rules input)
    pub domains : Begins s.options after.domains (file_diagram input).domains
    pub layers : Begins s.nodes after.layers (file_diagram input).layers
    pub targets : Begins s.edges after.targets (file_diagram input).targets

  front : {n : ℕ} (xs l : List ℕ) {l' : List ℕ} → l' ≡ over xs l → n ≡ length xs → Begins n l' xs
  front xs l e h = record { entries = (over_parts xs l h e).0; count = h }

  pub filled : (s : Sizes) → answer.outcome ≡ file.Read s → Filled s
  filled s q =
      let w = (tells.told_result (file.Read s) _ _ refl).0 q in
      let n = file_said_once (file.Read s) (file.Read (sizes_of input)) w.1 in
      let z : s ≡ sizes_of input = cc in
      let l = tells.told_leaves w.0 in
      record {
        goes_on = passes (file_rules input most_sizes) (list_rules (file_diagram input)) refl (sym file_verdict ∙ w.0) refl;
        domains = front _ _ (ap (λ (d : Lent). d.domains) l) (ap (λ (s : Sizes). s.options) z ∙ sym (file_lengths input).0);
        layers = front _ _ (ap (λ (d : Lent). d.layers) l) (ap (λ (s : Sizes). s.nodes) z ∙ sym (file_lengths input).1);
        targets = front _ _ (ap (λ (d : Lent). d.targets) l) (ap (λ (s : Sizes). s.edges) z ∙ sym (file_lengths input).2);
      }

  pub filled_diagram : {s : Sizes} → Filled s → lent (take s.options after.domains) (take s.nodes after.layers) (take s.edges after.targets) ≡ file_diagram input
  filled_diagram f = rw (f.domains.entries, f.layers.entries, f.targets.entries)

-- ---- the input's length

pub too_long : (input : List ℕ) → most_bytes < length input → Err (refusal 21 0) ≡ chain (desk_rules input)
unfolding desk_rules chain
too_long input h = rw (lt-ltb most_bytes (length input) h)

pub not_long : (input : List ℕ) → length input ≤ most_bytes → chain (lines_rules input) ≡ chain (desk_rules input)
unfolding desk_rules chain
not_long input h = rw (le-ltb most_bytes (length input) h)
