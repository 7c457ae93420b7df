-- `option_writer::emit_pairs_after` meets its contract: before turn t, the first t pairs stand there. Assumes nothing.
use mathlib.Core.Path.{◌≡◌, ap}
use mathlib.Core.List.{List}
use Prim.Native.Nat.{ℕ, ◌≤◌, ◌<◌, ◌+◌}
use native.Mathlib.Omega.{arith}
use lib.IntN.{ℤ}
use lib.ListN.{length}
use Rattle.lists.specs.Buffer.{Wrote}
use Rattle.lists.specs.Upto.{up_to}
use Rattle.lists.proofs.BufferLaws.{kept, begin, turn, room, finish}
use Rattle.cnf.specs.Clause.{words}
use Rattle.clauses.specs.Clauses.{pairs_after}
use Rattle.encoding.proofs.ClauseLaws.{negated_word, each_room, each_wrote, pair_words}
use Rattle.option_writer.proofs.PartLaws.{words_wrote}
use Rattle.option_writer.proofs.emit_pairs_after.Invariants.{block}
use Rattle.option_writer.proofs.emit_pairs_after.Goals as goal

-- there is room for the next pair
fits : (before i n at t : ℕ) {l l₁ : List ℤ} {p : ℕ} → Wrote l at (up_to t (λ t. words (block before i t))) l₁ p → at + length (words (pairs_after before i n)) ≤ length l → t < n → p + length (words (block before i t)) ≤ length l₁
fits before i n at t a h k = room (λ t. words (block before i t)) a (each_room n (block before i) at _ h) k

pub loop-t-init : goal.loop-t-init
loop-t-init c = begin _

pub offset_bounds-out-p : goal.offset_bounds-out-p
offset_bounds-out-p c = let a = c.args in let l = c.loop-t in omega (arith, fits a.before a.i a.n a.at l.t l.invariant c.requires.n_in_bounds c.loop-t-test.true)

pub slice_bounds-emit_words-end : goal.slice_bounds-emit_words-end
slice_bounds-emit_words-end c =
    let a = c.args in
    let l = c.loop-t in
    let w = pair_words a.before a.i (a.i + 1 + l.t) (negated_word _ c.value_variable-a.ensures (omega arith)) (negated_word _ c.value_variable-b.ensures (omega arith)) in
    omega (arith, ap length w, fits a.before a.i a.n a.at l.t l.invariant c.requires.n_in_bounds c.loop-t-test.true)

pub overflow_add-p : goal.overflow_add-p
overflow_add-p c =
    let a = c.args in
    let l = c.loop-t in
    let w = pair_words a.before a.i (a.i + 1 + l.t) (negated_word _ c.value_variable-a.ensures (omega arith)) (negated_word _ c.value_variable-b.ensures (omega arith)) in
    record { fits = omega (arith, ap length w, kept l.invariant, fits a.before a.i a.n a.at l.t l.invariant c.requires.n_in_bounds c.loop-t-test.true) }

pub overflow_add-p-in-loop-t : goal.overflow_add-p-in-loop-t
overflow_add-p-in-loop-t c =
    let a = c.args in
    let l = c.loop-t in
    let w = pair_words a.before a.i (a.i + 1 + l.t) (negated_word _ c.value_variable-a.ensures (omega arith)) (negated_word _ c.value_variable-b.ensures (omega arith)) in
    let three : 3 ≡ length (words (block a.before a.i l.t)) = ap length w in
    record { fits = omega (arith, three, (words_wrote l.out l.p w (omega (arith, three)) (fits a.before a.i a.n a.at l.t l.invariant c.requires.n_in_bounds c.loop-t-test.true) c.emit_words-p.ensures).1, kept l.invariant, fits a.before a.i a.n a.at l.t l.invariant c.requires.n_in_bounds c.loop-t-test.true) }

pub loop-t-preserved : goal.loop-t-preserved
loop-t-preserved c =
    let a = c.args in
    let l = c.loop-t in
    let w = pair_words a.before a.i (a.i + 1 + l.t) (negated_word _ c.value_variable-a.ensures (omega arith)) (negated_word _ c.value_variable-b.ensures (omega arith)) in
    let three : 3 ≡ length (words (block a.before a.i l.t)) = ap length w in
    turn (λ t. words (block a.before a.i t)) l.invariant (words_wrote l.out l.p w (omega (arith, three)) (fits a.before a.i a.n a.at l.t l.invariant c.requires.n_in_bounds c.loop-t-test.true) c.emit_words-p.ensures).0

pub shape_of-out : goal.shape_of-out
shape_of-out c = kept c.loop-t.invariant

pub returns : goal.returns
returns c = let a = c.args in each_wrote a.n (block a.before a.i) (finish (λ t. words (block a.before a.i t)) c.loop-t.invariant (omega arith) (omega arith))
