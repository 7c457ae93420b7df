-- Laws of bytes at a place of a text, and of bytes put into a lent buffer. Assumes nothing.
use mathlib.Core.Path.{◌≡◌, refl, sym, ap, ◌∙◌}
use mathlib.Core.Bool.{Bool, true, false, cond, and-eq-true_iff, false≢true}
use mathlib.Core.List.{List, [], ◌∷◌, ◌++◌, append_assoc}
use Prim.Native.Nat.{ℕ, ◌+◌, ◌-◌, ◌≤◌, ◌<◌}
use native.Mathlib.Omega.{arith}
use lib.Dec.{leb, eqb}
use lib.ListN.{length, take, drop, length-append, length-drop}
use lib.Seq.{sets, length-sets, sets-eq, drop-drop}
use borrow.Author.Tests.{eqb-true, eq-eqb, le-leb, lt-leb}
use borrow.Rule.Slice.PartMut.{put_mid}
use Rattle.std.specs.List.{slice_range}
use Rattle.std.proofs.lemmas.List.{take_all}
use Rattle.lists.specs.Buffer.{Wrote}
use Rattle.decimal.specs.Bytes.{starts_with, has_at, put_at, PutPromise}

-- ---- comparing

-- a text begins with the key exactly when it is the key and what follows
pub starts_with_lem : (key s : List ℕ) → starts_with key s ≡ true → s ≡ key ++ drop (length key) s
unfolding starts_with
starts_with_lem [] s h = refl
starts_with_lem (k ∷ key) [] h = absurd (false≢true h)
starts_with_lem (k ∷ key) (b ∷ s) h =
    let w = (and-eq-true_iff (eqb b k) (starts_with key s)).0 h in
    let e = eqb-true b k w.0 in
    let r = starts_with_lem key s w.1 in
    cc

-- and so it is as long
pub has_inside : (text : List ℕ) (at k : ℕ) (key : List ℕ) → has_at text at (k ∷ key) ≡ true → at + length (k ∷ key) ≤ length text
has_inside text at k key h =
    let e = simp (length-append, length-drop) at (ap length (starts_with_lem (k ∷ key) (drop at text) h)) in
    omega arith

pub with_start : (key rest : List ℕ) → starts_with key (key ++ rest) ≡ true
unfolding starts_with
with_start [] rest = refl
with_start (k ∷ key) rest = rw (eq-eqb k k refl) (with_start key rest)

-- ---- what is left of a text from `at` on, as code takes it

pub rest_at : (text : List ℕ) (at : ℕ) → slice_range text at (length text) ≡ drop at text
rest_at text at = take_all (length text - at) (drop at text) (omega (arith, length-drop at text))

-- ---- putting

module _ (bytes : List ℕ) (at : ℕ) (before : List ℕ) where
  put_room : at + length bytes ≤ length before → put_at bytes at before ≡ sets before at bytes
  put_room h = rw (le-leb (at + length bytes) (length before) h)

  -- there is no room; there is, and they were written
  pub put_none : length before < at + length bytes → PutPromise bytes at before (length bytes) before
  put_none h = record { counts = refl; buffer = rw (lt-leb (at + length bytes) (length before) h) }

  pub put_all : at + length bytes ≤ length before → {after : List ℕ} {r : ℕ} → Wrote before at bytes after r → PutPromise bytes at before (length bytes) after
  put_all h w = record { counts = refl; buffer = w.list ∙ sym (put_room h) }

  -- they were written as a part of the buffer
  pub put_part : {k : ℕ} {part : List ℕ} → k ≡ length bytes → at + length bytes ≤ length before → part ≡ bytes → PutPromise bytes at before (length bytes) (put_mid at k before part)
  put_part e h p = record { counts = refl; buffer = rw (e, p, drop-drop) (sym (put_room h ∙ sets-eq bytes before at h ∙ append_assoc (take at before) bytes (drop (at + length bytes) before))) }

  -- the buffer keeps its length
  pub put_length : {n : ℕ} {after : List ℕ} → PutPromise bytes at before n after → length after ≡ length before
  put_length p = ap length p.buffer ∙ go (leb (at + length bytes) (length before))
    where
      go : (t : Bool) → length (cond t (sets before at bytes) before) ≡ length before
      go true = length-sets before at bytes
      go false = refl

  -- what a caller that has no room is told, and one that has
  pub put_kept : {n : ℕ} {after : List ℕ} → length before < at + length bytes → PutPromise bytes at before n after → after ≡ before
  put_kept h p = p.buffer ∙ rw (lt-leb (at + length bytes) (length before) h)

  pub put_wrote : {n : ℕ} {after : List ℕ} → at + length bytes ≤ length before → PutPromise bytes at before n after → Wrote before at bytes after (at + n)
  put_wrote h p = record { list = p.buffer ∙ put_room h; next = ap (λ (k : ℕ). at + k) p.counts }

-- the same count, said in another way
pub put_count : {bytes : List ℕ} {at : ℕ} {before after : List ℕ} {m n : ℕ} → m ≡ n → PutPromise bytes at before n after → PutPromise bytes at before m after
put_count e p = record { counts = e ∙ p.counts; buffer = p.buffer }
