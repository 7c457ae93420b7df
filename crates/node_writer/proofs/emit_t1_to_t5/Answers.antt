-- `node_writer::emit_t1_to_t5` meets its contract: T1, and then each edge. Assumes nothing.
use mathlib.Core.List.{List, [], ◌∷◌}
use mathlib.Core.Path.{◌≡◌, ap}
use Prim.Native.Nat.{ℕ, ◌≤◌, ◌+◌, ◌-◌}
use native.Mathlib.Omega.{arith}
use lib.IntN.{ℤ, pos, ◌-ℤ◌}
use mir.Syntax.{w32}
use mir.Val.{of_z, to_z}
use lib.ListN.{length, set, length-set}
use borrow.Rule.Slice.PartMut.{mid_of, put_mid}
use Rattle.lists.specs.Buffer.{Wrote}
use Rattle.lists.specs.Upto.{up_to}
use Rattle.lists.proofs.BufferLaws.{kept, then, then_room, wrote_as, part_room, front_in_part}
use Rattle.lists.proofs.SignedLaws.{minus_back}
use Rattle.cnf.specs.Clause.{words, negated}
use Rattle.clauses.specs.Clauses.{t1, one_of}
use Rattle.encoding.specs.declared.Bases.{Bases}
use Rattle.encoding.specs.Emit.{edge_from, node_from, numbers_from, EmitPromise}
use Rattle.encoding.proofs.ClauseLaws.{run_length, more_words, t1_wrote, node_length, emitted}
use Rattle.node_writer.proofs.emit_t1_to_t5.Goals as goal

module _ (b : Bases) (ts : List ℕ) where
  abbrev run : List ℤ
  run = one_of (λ j. b.edge + j) (length ts)

  abbrev edges : List ℤ
  edges = words (up_to (length ts) (edge_from b ts))

  -- the literals are in the part past the first word of l, and then comes the closing 0: there is room for the edges
  record Head (before l after : List ℤ) (r : ℕ) : Type 0 where
    as_many : r ≡ length ts
    as_long : length (put_mid 1 (length l - 1) l after) ≡ length before
    wrote : Wrote before 0 (words (t1 b.node (λ j. b.edge + j) (length ts) ∷ [])) (set (put_mid 1 (length l - 1) l after) (1 + r) (pos 0)) (1 + r + 1)
    room : 1 + r + 1 + length edges ≤ length (set (put_mid 1 (length l - 1) l after) (1 + r) (pos 0))

  head : {before after : List ℤ} {w : ℤ} {r : ℕ} → numbers_from b ts ≤ 1000000 → length (words (node_from b ts)) ≤ length before → w ≡ negated b.node → EmitPromise (b.edge + length ts) run (mid_of 1 (length (set before 0 w) - 1) (set before 0 w)) after r → Head before (set before 0 w) after r
  head {before} {after} {w} {r} h f e a =
      let l = set before 0 w in
      let k = length-set before 0 w in
      let n = node_length b ts in
      let m = run_length (λ j. b.edge + j) (length ts) in
      let room : 1 + length run ≤ length l = omega arith in
      let p = front_in_part l 1 room (emitted _ _ _ (omega arith) (part_room l 1 _ room) a) in
      let t = t1_wrote b.node (λ j. b.edge + j) (length ts) e p in
      let g = kept p in
      record {
        as_many = omega (arith, p.next);
        as_long = omega arith;
        wrote = t;
        room = then_room t edges (omega (arith, ap length (more_words (t1 b.node (λ j. b.edge + j) (length ts)) (up_to (length ts) (edge_from b ts)))));
      }

pub bounds-out-0 : goal.bounds-out-0
bounds-out-0 c = omega (arith, node_length c.args.bases c.args.targets.now)

pub slice_bounds-emit_literals-count : goal.slice_bounds-emit_literals-count
slice_bounds-emit_literals-count c = simp length-set (omega (arith, node_length c.args.bases c.args.targets.now))

pub slice_bounds-emit_literals-start : goal.slice_bounds-emit_literals-start
slice_bounds-emit_literals-start c = simp length-set (omega (arith, node_length c.args.bases c.args.targets.now))

-- a number's negation, as it is computed
abbrev turned : ℕ → ℤ
turned n = to_z w32 (of_z w32 (to_z w32 0 -ℤ to_z w32 n))

-- at the store of the closing 0
header : (c : goal.After-out-1) → Head c.args.bases c.args.targets.now c.args.out.now (set c.args.out.now 0 (turned c.args.bases.node)) c.emit_literals-p.new.out c.emit_literals-p.result
header c = head c.args.bases c.args.targets.now c.requires.targets_bound c.requires.targets_in_bounds (minus_back _ (omega arith)) c.emit_literals-p.ensures

pub overflow_add-p : goal.overflow_add-p
overflow_add-p c = let h = header c in omega arith

pub offset_bounds-out-p : goal.offset_bounds-out-p
offset_bounds-out-p c = let h = header c in omega arith

pub slice_set_of-out : goal.slice_set_of-out
slice_set_of-out c = let h = header c in omega (arith, node_length c.args.bases c.args.targets.now)

pub overflow_add-q : goal.overflow_add-q
overflow_add-q c = let h = header c in omega arith

pub offset_bounds-out-q : goal.offset_bounds-out-q
offset_bounds-out-q c = let h = header c in omega arith

pub slice_bounds-emit_edges-count : goal.slice_bounds-emit_edges-count
slice_bounds-emit_edges-count c = let h = header c in omega arith

pub slice_bounds-emit_edges-start : goal.slice_bounds-emit_edges-start
slice_bounds-emit_edges-start c = let h = header c in omega arith

-- the edges are written past it
whole : (b : Bases) (ts : List ℕ) {before l after l' : List ℤ} {r n : ℕ} → numbers_from b ts ≤ 1000000 → Head b ts before l after r → let q = 1 + r + 1 in let m = set (put_mid 1 (length l - 1) l after) (1 + r) (pos 0) in EmitPromise (numbers_from b ts) (edges b ts) (mid_of q (length m - q) m) l' n → Wrote before 0 (words (node_from b ts)) (put_mid q (length m - q) m l') (q + n)
whole b ts {l = l} {after = after} {r = r} h e a =
    let q = 1 + r + 1 in
    let m = set (put_mid 1 (length l - 1) l after) (1 + r) (pos 0) in
    wrote_as (then e.wrote (front_in_part m q e.room (emitted _ (edges b ts) _ h (part_room m q _ e.room) a))) (more_words _ _)

pub overflow_add-result : goal.overflow_add-result
overflow_add-result c =
    let b = c.args.bases in
    let ts = c.args.targets.now in
    let h = head b ts c.requires.targets_bound c.requires.targets_in_bounds (minus_back b.node (omega arith)) c.emit_literals-p.ensures in
    let w = whole b ts c.requires.targets_bound h c.emit_edges.ensures in
    omega (arith, w.next)

pub returns : goal.returns
returns c =
    let b = c.args.bases in
    let ts = c.args.targets.now in
    whole b ts c.requires.targets_bound (head b ts c.requires.targets_bound c.requires.targets_in_bounds (minus_back b.node (omega arith)) c.emit_literals-p.ensures) c.emit_edges.ensures
