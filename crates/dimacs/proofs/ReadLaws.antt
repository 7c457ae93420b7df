-- What an answer of `read_text` tells. Assumes nothing.
use Rattle.std.specs.Prelude.{Ok}
use mathlib.Core.Path.{◌≡◌, refl, ap}
use mathlib.Core.Logic.{◌↔◌}
use mathlib.Core.List.{List}
use Prim.Native.Nat.{ℕ}
use lib.IntN.{ℤ}
use lib.ListN.{length, take, drop}
use Rattle.lists.specs.Buffer.{over}
use Rattle.lists.proofs.BufferLaws.{over_parts}
use Rattle.refusal.specs.Rules.{chain}
use Rattle.refusal.specs.Said.{Said, result_of}
use Rattle.refusal.specs.Table.{NoneDue, ExactlyWhen}
use Rattle.refusal.specs.declared.Refusal.{Refusal}
use Rattle.refusal.proofs.TableLaws.{passed_exactly}
use Rattle.refusal.proofs.AnsweredLaws.{Told, told}
use Rattle.cnf.specs.Encoded.{tally_said, tally_said_once}
use Rattle.cnf.specs.declared.Tally.{Tally}
use Rattle.dimacs.specs.Rules.{header_variables, text_words, read_rules, read_table}
use Rattle.dimacs.specs.Read.{read_said, tally_read, ReadPromise, read_said_once}
use Rattle.dimacs.specs.declared.TextRead.TheVariants.{Read, Refused}
use Rattle.dimacs.specs.declared.ReadAnswer.{ReadAnswer}
use Rattle.dimacs.proofs.ReadTable.{read_faithful}

module _ (text : List ℕ) (before : List ℤ) where
  abbrev tallied : Tally
  tallied = tally_read (text_words text) (header_variables text)

  module _ (answer : ReadAnswer) (after : List ℤ) (promise : ReadPromise text before answer after) where
    tells : Told read_said Refused (read_rules text (length before)) (tally_said tallied) (over (text_words text) before) before answer.outcome after
    tells = told read_said read_said_once Refused (λ r. refl) promise

    -- each of the numbers 17, 16, 18, 14, 15, 19 and 7 is given exactly when the first row that is due gives it
    pub read_exactly_when : ExactlyWhen (read_table text (length before)) (λ r. answer.outcome ≡ Refused r)
    read_exactly_when = tells.told_when (read_table text (length before)) (read_faithful text (length before))

    -- a refusal keeps the list
    pub read_keeps : (r : Refusal) → answer.outcome ≡ Refused r → after ≡ before
    read_keeps = tells.told_keeps

    -- "read" is answered with counts exactly when nothing is refused and the counts are those of the text's words, with V
    pub read_passed : (t : Tally) → (answer.outcome ≡ Read t) ↔ ((chain (read_rules text (length before)) ≡ Ok tt) × (t ≡ tallied))
    read_passed t =
        let w = tells.told_result (Read t) _ _ refl in (
          (λ q. let p = w.0 q in (p.0, tally_said_once t tallied (ap (λ (s : Said). s.values) p.1))),
          (λ p. w.1 (p.0, ap (λ (t : Tally). result_of (tally_said t)) p.1)),
        )

    -- the same in words: no row of the table is due
    pub read_exactly : (t : Tally) → (answer.outcome ≡ Read t) ↔ (NoneDue (read_table text (length before)) × (t ≡ tallied))
    read_exactly t =
        let w = read_passed t in
        let n = passed_exactly (read_rules text (length before)) (read_table text (length before)) (read_faithful text (length before)) in
        ((λ q. let p = w.0 q in (n.0 p.0, p.1)), (λ p. w.1 (n.1 p.0, p.1)))

    -- the list's front is exactly the text's words, and what lies past them is kept
    pub read_list : (t : Tally) → answer.outcome ≡ Read t → (take t.words after ≡ text_words text) × (drop t.words after ≡ drop t.words before)
    read_list t q =
        let w = (read_passed t).0 q in
        let n : t.words ≡ length (text_words text) = ap (λ (t : Tally). t.words) w.1 in
        let b : after ≡ over (text_words text) before = tells.told_leaves w.0 in
        over_parts (text_words text) before n b
