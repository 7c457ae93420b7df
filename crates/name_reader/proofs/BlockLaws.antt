-- A block of the literals: where it stands, and that it changes nothing where no literal of it names a value variable. Assumes
-- nothing.
use Rattle.std.specs.Prelude.{◌≡◌, ◌||◌, false, List, ℕ, ℤ, pos, ◌+◌, ◌-◌, ◌≤◌, ◌++◌, fold, length}
use Rattle.std.proofs.Common.{sym, ◌∙◌, ap, take, drop, arith}
use Rattle.std.proofs.Math.Seq.{take-append_seam, drop-append_seam}
use Rattle.std.proofs.lemmas.List.{length-append, length-drop, drop-drop}
use Rattle.lists.proofs.IterLaws.{position_first}
use Rattle.lists.proofs.FoldLaws.{none_passes}
use Rattle.naming.specs.Marks.{names_value, NotedTo}
use Rattle.naming.proofs.MarkLaws.{noted_past}

-- after `from` literals the block is next, and then the rest
module _ (m : List ℤ) (from : ℕ) (block rest : List ℤ) (next : drop from m ≡ block ++ rest) where
  pub within : from ≤ length m → from + length block ≤ length m
  within h = omega (arith, length-drop from m, length-append block rest, ap length next)

  pub rest_is : rest ≡ drop (from + length block) m
  rest_is = sym (drop-append_seam block rest) ∙ ap (drop (length block)) (sym next) ∙ drop-drop (length block) from m

  block_is : block ≡ take (from + length block - from) (drop from m)
  block_is = let e : from + length block - from ≡ length block = omega arith in rw (e, next) (sym (take-append_seam block rest))

  -- where it names no value variable
  pub passed_over : (D : ℕ) {ms : List ℕ} → from ≤ length m → fold (λ some l. some || names_value D l) false block ≡ false → NotedTo D m from ms → NotedTo D m (from + length block) ms
  passed_over D h e w = noted_past D m from (from + length block) (omega arith) (within h) (rw (← block_is) (sym (position_first (names_value D) block (pos 0)) ∙ none_passes (names_value D) block e)) w
