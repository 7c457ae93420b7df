-- From what is read to what is written. Assumes nothing.
use Rattle.std.proofs.Common.{◌≡◌, ℕ, ◌<◌, ◌≤◌, List, ◌++◌, Option, None, Some, IfSome, OnOk, Result, Ok, Err, length, take, refl, sym, ap, ◌∙◌, subst, arith, take_all, append-nil, length-take-le, inl, inr}
use Rattle.std.proofs.lemmas.List.{take-append-le, length-take}
use Rattle.std.proofs.Math.Nat.{eq-or-lt_of_le}
use Rattle.std.specs.Io.KnownBytes.{Appends, Consumes, IsAtEnd}
use Rattle.lists.proofs.UptoLaws.{below_or_not}
use Rattle.refusal.specs.Rules.{refusal}
use Rattle.desk.specs.Output.{refusal_lines}
use Rattle.desk.specs.Promise.{DeskPromise, Printed, refusal_as_lines, clause_text}
use Rattle.desk.specs.declared.DeskRun.{DeskRun}
use Rattle.desk.specs.declared.DeskRun.TheVariants as run
use Rattle.desk.specs.declared.DeskAnswer.{DeskAnswer}
use Rattle.desk.proofs.PrintLaws.{lines_most}
use Rattle.desk.proofs.DeskLaws.{is_short, prints}
use Rattle.encode.specs.Program.{told_count, PrintedOn}

-- what is read is the input, or its front where that is longer than the buffer
read_front : (room : ℕ) (xs : List ℕ) (rest : Option (List ℕ)) (buf : List ℕ) (n : ℕ) → length buf ≡ room → n ≤ length buf → Consumes (Some xs) rest (take n buf) → (n < length buf → IsAtEnd rest) → take n buf ≡ take room xs
read_front room xs None buf n long within lost end = absurd lost
read_front room xs (Some ys) buf n long within lost end =
    let count : length (take n buf) ≡ n = length-take-le n buf within in
    elim (eq-or-lt_of_le within) [
      | inl e ↦ let low : room ≤ length (take n buf) = omega (arith, count) in
          sym (ap (take room) lost ∙ take-append-le room (take n buf) ys low ∙ take_all room (take n buf) (omega (arith, count)))
      | inr l ↦ let all : xs ≡ take n buf = lost ∙ ap (λ l. take n buf ++ l) (end l) ∙ append-nil (take n buf) in
          sym (ap (take room) all ∙ take_all room (take n buf) (omega (arith, count)))
    ]

-- an input that is too long is refused for that
too_long : (xs : List ℕ) → (length xs ≤ 32768 → ⊥) → Printed xs (run.Told (length (refusal_lines (refusal 21 0))) (refusal 21 0)) (refusal_lines (refusal 21 0))
too_long xs h = refusal_as_lines 21 0 (inl (refl, (refl, h)))

-- what is to be printed for the front of an input is what is to be printed for the input
record FrontPrinted (front xs : List ℕ) : Type 0 where
  outcome : DeskRun
  bytes : List ℕ
  of_front : Printed front outcome bytes
  of_input : Printed xs outcome bytes
  short : length bytes ≤ 73750

front_printed : (room : ℕ) → 32768 < room → (xs : List ℕ) → FrontPrinted (take room xs) xs
front_printed room more xs =
    elim (below_or_not (length xs) 32769) [
      | inl h ↦ let (outcome, bytes, w, s) = is_short xs in
          let all : take room xs ≡ xs = take_all room xs (omega arith) in
          record { outcome = outcome; bytes = bytes; of_front = subst (λ l. Printed l outcome bytes) (sym all) w; of_input = w; short = s }
      | inr h ↦ record {
        outcome = run.Told (length (refusal_lines (refusal 21 0))) (refusal 21 0);
        bytes = refusal_lines (refusal 21 0);
        of_front = too_long (take room xs) (λ k. omega (arith, length-take room xs, k));
        of_input = too_long xs (λ k. omega arith);
        short = omega (arith, lines_most (refusal 21 0));
      }
    ]

counted : (input : List ℕ) (o : DeskRun) (bytes : List ℕ) → Printed input o bytes → told_count o ≡ length bytes
counted input _ _ (refusal_as_lines n p g) = refl
counted input _ _ (clause_text none) = refl

-- what is told of an answer is what is to be printed, where the lent buffer is long enough
shown : (input before : List ℕ) (answer : DeskAnswer) (after : List ℕ) (o : DeskRun) (bytes : List ℕ) → DeskPromise input before answer after → Printed input o bytes → length bytes ≤ length before → (told_count answer.outcome ≡ length bytes) × (take (told_count answer.outcome) after ≡ bytes)
shown input before answer after o bytes promise w fit =
    let p = prints input before answer after promise w fit in
    let count = ap told_count p.answered ∙ counted input o bytes w in
    (count, ap (λ n. take n after) count ∙ p.the_bytes)

-- what is written is what is to be printed for the input, where that is known
pub written : (room : ℕ) → 32768 < room → (known rest : Option (List ℕ)) (buf : List ℕ) (n : ℕ) → length buf ≡ room → n ≤ length buf → Consumes known rest (take n buf) → (n < length buf → IsAtEnd rest)
    → (before : List ℕ) (answer : DeskAnswer) (after : List ℕ) → length before ≡ 73750 → length after ≡ 73750 → DeskPromise (take n buf) before answer after
    → (old new : Option (List ℕ)) → (told_count answer.outcome ≤ length after → Appends old new (take (told_count answer.outcome) after)) → IfSome known (λ xs. PrintedOn xs old new)
written room more None rest buf n long within lost end before answer after room_before room_after promise old new told = tt
written room more (Some xs) rest buf n long within lost end before answer after room_before room_after promise old new told =
    let f = front_printed room more xs in
    let same = read_front room xs rest buf n long within lost end in
    let s = shown (take n buf) before answer after f.outcome f.bytes promise (subst (λ l. Printed l f.outcome f.bytes) (sym same) f.of_front) (omega (arith, f.short)) in
    (f.outcome, f.bytes, f.of_input, subst (Appends old new) s.1 (told (omega (arith, s.0, f.short))))

-- the same of a writing that may fail
pub written_on_ok : {A E : Type 0} (r : Result A E) (room : ℕ) → 32768 < room → (known rest : Option (List ℕ)) (buf : List ℕ) (n : ℕ) → length buf ≡ room → n ≤ length buf → Consumes known rest (take n buf) → (n < length buf → IsAtEnd rest)
    → (before : List ℕ) (answer : DeskAnswer) (after : List ℕ) → length before ≡ 73750 → length after ≡ 73750 → DeskPromise (take n buf) before answer after
    → (old new : Option (List ℕ)) → (told_count answer.outcome ≤ length after → OnOk r (Appends old new (take (told_count answer.outcome) after))) → OnOk r (IfSome known (λ xs. PrintedOn xs old new))
written_on_ok (Ok a) room more known rest buf n long within lost end before answer after room_before room_after promise old new told = written room more known rest buf n long within lost end before answer after room_before room_after promise old new told
written_on_ok (Err e) room more known rest buf n long within lost end before answer after room_before room_after promise old new told = tt
