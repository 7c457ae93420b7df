-- Words at hand, written into a part of the buffer that is just as long. Assumes nothing.
use mathlib.Core.Path.{◌≡◌, sym, ◌∙◌}
use mathlib.Core.List.{List, append_assoc}
use Prim.Native.Nat.{ℕ, ◌+◌, ◌≤◌}
use native.Mathlib.Omega.{arith}
use lib.IntN.{ℤ}
use lib.ListN.{length, take, drop, length-take, length-drop}
use lib.Seq.{sets-eq, drop-drop}
use borrow.Rule.Slice.PartMut.{mid_of, put_mid}
use Rattle.lists.specs.Buffer.{Wrote}
use Rattle.lists.proofs.BufferLaws.{over_all}
use Rattle.encoding.specs.Emit.{EmitPromise}
use Rattle.encoding.proofs.ClauseLaws.{emitted, few_enough}

part_wrote : (l : List ℤ) (at : ℕ) {m n : ℕ} {ws part : List ℤ} → m ≡ length ws → n ≡ length ws → at + length ws ≤ length l → part ≡ ws → Wrote l at ws (put_mid at m l part) (at + n)
part_wrote l at {ws = ws} d e h p = record { list = rw (d, p, drop-drop) (sym (sets-eq ws l at h ∙ append_assoc (take at l) ws (drop (at + length ws) l))); next = omega (arith, e) }

module _ (l : List ℤ) (at : ℕ) {m : ℕ} {xs ws l' : List ℤ} {r : ℕ} (e : xs ≡ ws) (d : m ≡ length ws) (h : at + length ws ≤ length l) (a : EmitPromise 0 xs (mid_of at m l) l' r) where
  many : length (mid_of at m l) ≡ length ws
  many = omega (arith, d, h, length-take m (drop at l), length-drop at l)

  pub words_wrote : (Wrote l at ws (put_mid at m l l') (at + r)) × (r ≡ length ws)
  words_wrote =
      let f = emitted 0 ws (mid_of at m l) (omega arith) (omega (arith, many)) (few_enough (omega arith) e a) in
      (part_wrote l at d f.next h (f.list ∙ over_all ws (mid_of at m l) (omega (arith, many))), f.next)
