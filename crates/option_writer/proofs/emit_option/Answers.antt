-- `option_writer::emit_option` meets its contract: nothing, or the clause of all values, and then the pairs. Assumes nothing.
use mathlib.Core.List.{List, [], ◌∷◌}
use mathlib.Core.Path.{◌≡◌, ap}
use Prim.Native.Nat.{ℕ, ◌≤◌, ◌+◌, ◌*◌}
use native.Mathlib.Omega.{arith}
use lib.IntN.{ℤ, pos}
use lib.ListN.{length, set}
use Rattle.lists.specs.Buffer.{Wrote}
use Rattle.lists.proofs.BufferLaws.{kept, put, then, then_room, wrote_as, from_front}
use Rattle.cnf.specs.Clause.{words}
use Rattle.diagram.specs.Numbers.{value_number}
use Rattle.clauses.specs.Clauses.{one_of, all_values, pairs, pair_count, pairwise}
use Rattle.clauses.proofs.Edition1.{edition1_counts}
use Rattle.encoding.specs.Emit.{EmitPromise}
use Rattle.encoding.proofs.ClauseLaws.{run_length, values_words, more_words, too_many, too_short, emits, emitted}
use Rattle.option_writer.proofs.emit_option.Goals as goal

long : (before k : ℕ) → length (words (pairwise before k)) ≡ k + 1 + 3 * pair_count k
long before k = edition1_counts.words_are before 0 k

-- the literals are written, and then the closing 0: there is room for the pairs
record Row (before k : ℕ) (l l' : List ℤ) (r : ℕ) : Type 0 where
  as_many : r ≡ k
  as_long : length l' ≡ length l
  closed : Wrote l 0 (words (all_values before k ∷ [])) (set l' r (pos 0)) (r + 1)
  room : r + 1 + length (words (pairs before k)) ≤ length (set l' r (pos 0))

row : (before k : ℕ) {l l' : List ℤ} {r : ℕ} → value_number before k ≤ 1000000 → k + 1 + 3 * pair_count k ≤ length l → EmitPromise (before + 1 + k) (one_of (λ j. before + 1 + j) k) l l' r → Row before k l l' r
row before k {l} h f a =
    let n = run_length (λ j. before + 1 + j) k in
    let m : length (one_of (λ j. before + 1 + j) k) ≤ length l = omega arith in
    let w = from_front m (emitted _ _ _ (omega arith) m a) in
    let e = wrote_as (then w (put _ _ _)) (values_words before k (omega arith)) in
    record { as_many = omega arith; as_long = kept w; closed = e; room = then_room e (words (pairs before k)) (omega (arith, ap length (more_words (all_values before k) (pairs before k)), long before k)) }

pub returns-then-from-value_variable : goal.returns-then-from-value_variable
returns-then-from-value_variable c = too_many _ _ _ (omega arith)

pub returns-then-out-from : goal.returns-then-out-from
returns-then-out-from c = too_short _ _ _ (omega (arith, long c.args.before c.args.k))

pub offset_bounds-out-p : goal.offset_bounds-out-p
offset_bounds-out-p c = let w = row c.args.before c.args.k (omega arith) (omega arith) c.emit_literals-p.ensures in omega arith

pub slice_set_of-out : goal.slice_set_of-out
slice_set_of-out c = let w = row c.args.before c.args.k (omega arith) (omega arith) c.emit_literals-p.ensures in omega arith

pub overflow_add-p : goal.overflow_add-p
overflow_add-p c = let w = row c.args.before c.args.k (omega arith) (omega arith) c.emit_literals-p.ensures in omega arith

pub emit_pairs-requires-clause-k_in_bounds : goal.emit_pairs-requires-clause-k_in_bounds
emit_pairs-requires-clause-k_in_bounds c = let w = row c.args.before c.args.k (omega arith) (omega arith) c.emit_literals-p.ensures in w.room

pub returns : goal.returns
returns c =
    let w = row c.args.before c.args.k (omega arith) (omega arith) c.emit_literals-p.ensures in
    emits _ _ _ (omega arith) (omega (arith, long c.args.before c.args.k)) (wrote_as (then w.closed c.emit_pairs.ensures) (more_words _ _))
