-- Laws of what is printed: a refusal's lines part by part, and that all of it fits or nothing is written. Assumes nothing.
use Rattle.std.specs.Prelude.{Ok, Err}
use mathlib.Core.Path.{◌≡◌, refl, sym, ap, ◌∙◌}
use mathlib.Core.List.{List, [], append_assoc}
use Prim.Native.Nat.{ℕ, ◌+◌, ◌≤◌, ◌<◌}
use native.Mathlib.Omega.{arith}
use lib.ListN.{length, take, length-append}
use Rattle.lists.specs.Buffer.{Wrote}
use Rattle.lists.proofs.BufferLaws.{kept, then, written, over_parts}
use Rattle.refusal.specs.Rules.{refusal}
use Rattle.refusal.specs.declared.Refusal.{Refusal}
use Rattle.refusal.proofs.RoomLaws.{too_short, long_enough}
use Rattle.refusal.proofs.AnsweredLaws.{by_refusal, by_result}
use Rattle.decimal.specs.Digits.{digits}
use Rattle.decimal.specs.Bytes.{PutPromise}
use Rattle.decimal.proofs.DigitsLaws.{digits_most}
use Rattle.decimal.proofs.BytesLaws.{put_wrote, put_kept, put_length}
use Rattle.dimacs.proofs.WriterLaws.{LastByte, last_byte}
use Rattle.desk.specs.Output.{named_line, refused_name, place_name, refusal_lines}
use Rattle.desk.specs.Promise.{desk_said, PrintedBy}
use Rattle.desk.specs.declared.DeskRun.TheVariants.{Told, Refused}

-- ---- a refusal's lines

named_length : (name : List ℕ) (n : ℕ) → length (named_line name n) ≡ length name + length (digits n) + 1
named_length name n = simp length-append (omega arith)

-- the name and the number are put, and the line feed goes to the end
pub named_feed : (name : List ℕ) (n : ℕ) {l l₁ l₂ : List ℕ} {at a b : ℕ} → at + length (named_line name n) ≤ length l → PutPromise name at l a l₁ → PutPromise (digits n) (at + a) l₁ b l₂ → LastByte l at (named_line name n) l₂ (at + a + b) 10
named_feed name n {l} {l₁} {at = at} {a = a} {b = b} fits p q =
    let m = named_length name n in
    let u = put_wrote name at l (omega (arith, m, fits)) p in
    let w = then u (put_wrote (digits n) (at + a) l₁ (omega (arith, m, fits, kept u, p.counts)) q) in
    simp append_assoc at (last_byte 10 w (omega (arith, m, fits, p.counts, q.counts)))

-- two lines, and how long they can be
pub lines_most : (r : Refusal) → length (refusal_lines r) ≤ 56
unfolding refusal_lines
lines_most r =
    omega (
      arith,
      length-append (named_line refused_name r.number) (named_line place_name r.place),
      named_length refused_name r.number,
      named_length place_name r.place,
      digits_most r.number,
      digits_most r.place,
    )

pub first_room : (r : Refusal) (l : List ℕ) → length (refusal_lines r) ≤ length l → 0 + length (named_line refused_name r.number) ≤ length l
unfolding refusal_lines
first_room r l h = omega (arith, length-append (named_line refused_name r.number) (named_line place_name r.place))

module _ (r : Refusal) {l l₁ : List ℕ} {next : ℕ} (w : Wrote l 0 (named_line refused_name r.number) l₁ next) where
  pub second_room : length (refusal_lines r) ≤ length l → next + length (named_line place_name r.place) ≤ length l₁
  unfolding refusal_lines
  second_room h = omega (arith, kept w, w.next, length-append (named_line refused_name r.number) (named_line place_name r.place))

  pub both_lines : {l₂ : List ℕ} {n : ℕ} → Wrote l₁ next (named_line place_name r.place) l₂ n → Wrote l 0 (refusal_lines r) l₂ n
  unfolding refusal_lines
  both_lines u = then w u

-- what was written at the front of a list
pub taken : {A : Type 0} {ws l l' : List A} {n : ℕ} → length ws ≤ length l → Wrote l 0 ws l' n → (take n l' ≡ ws) × (n ≤ length l')
taken {ws = ws} {l = l} h w = ((over_parts ws l (w.next ∙ omega arith) (written h w)).0, omega (arith, w.next, kept w))

-- ---- printing

module _ (r : Refusal) (before : List ℕ) {n : ℕ} {after : List ℕ} (p : PutPromise (refusal_lines r) 0 before n after) where
  same_length : length after ≡ length before
  same_length = put_length (refusal_lines r) 0 before p

  pub printed_short : length after < n → PrintedBy (Err r) [] before (record { outcome = Refused (refusal 7 n) }) after
  printed_short h =
      let short : length before < length (refusal_lines r) = omega (arith, same_length, p.counts) in
      rw (put_kept (refusal_lines r) 0 before (omega arith) p) (by_refusal desk_said _ _ before refl (too_short (length (refusal_lines r)) (length before) short ∙ ap (λ (k : ℕ). Err (refusal 7 k)) (sym p.counts)))

  pub printed_told : n ≤ length after → PrintedBy (Err r) [] before (record { outcome = Told n r }) after
  printed_told h =
      let long : length (refusal_lines r) ≤ length before = omega (arith, same_length, p.counts) in
      by_result desk_said _ _ before (ap (λ (k : ℕ). desk_said (Told k r)) p.counts) (long_enough (length (refusal_lines r)) (length before) long) (written long (put_wrote (refusal_lines r) 0 before (omega arith) p))
