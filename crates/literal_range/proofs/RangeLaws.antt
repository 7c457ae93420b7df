-- What a search of the literals and a question to each of them say of number 10. Assumes nothing.
use Rattle.std.specs.Prelude.{◌≡◌, ◌||◌, false, List, ℕ, ℤ, pos, None, length, position, fold}
use Rattle.std.proofs.Common.{sym, ◌∙◌}
use Rattle.lists.specs.First.{first}
use Rattle.lists.proofs.IterLaws.{position_first}
use Rattle.lists.proofs.FoldLaws.{none_passes}
use Rattle.literals.specs.Literals.{bad_literal, bad_at}

module _ (last : ℕ) (m : List ℤ) where
  pub searched : position (bad_literal last) m ≡ first (bad_at last m) (length m)
  searched = position_first (bad_literal last) m (pos 0)

  pub none_bad : fold (λ bad l. bad || bad_literal last l) false m ≡ false → None ≡ first (bad_at last m) (length m)
  none_bad e = sym (none_passes (bad_literal last) m e) ∙ searched
