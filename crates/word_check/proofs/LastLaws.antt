-- Whether a word list is closed, by its last word. Assumes nothing.
use Rattle.std.specs.Prelude.{◌≡◌, true, not, List, ◌-◌, ℕ, ℤ, pos, length, eqb, Option, Some, None}
use Rattle.std.specs.List.{slice_get}
use Rattle.std.proofs.Common.{sym, ◌∙◌, ap}
use Rattle.std.proofs.lemmas.Option.{unwrap_or-slice_get}
use Rattle.std.specs.Option.{unwrap_or}
use Rattle.std.specs.Bool.{then_some}
use mir.Syntax.{w32}
use mir.Val.{SFits, of_z}
use Rattle.lists.specs.First.{found_if}
use Rattle.lists.specs.Signed.{is_zero}
use Rattle.lists.proofs.SignedLaws.{zero_is}
use Rattle.lists.proofs.FoundLaws.{then_found}
use Rattle.cnf.specs.Words.{closed}
use Rattle.cnf.proofs.WordsLaws.{closed_last}

-- 0 where there is none
closed_at : (ws : List ℤ) (found : Option ℤ) → slice_get ws (length ws - 1) ≡ found → closed ws ≡ is_zero (unwrap_or found (pos 0))
closed_at ws found e = closed_last ws ∙ ap is_zero (sym (unwrap_or-slice_get ws (length ws - 1) (pos 0)) ∙ ap (λ (o : Option ℤ). unwrap_or o (pos 0)) e)

-- as code tests it
pub open_by_last : (ws : List ℤ) (w : ℤ) (n : ℕ) → SFits w32 w → slice_get ws (length ws - 1) ≡ Some w → then_some (not (eqb (of_z w32 w) 0)) n ≡ found_if (not (closed ws)) n
open_by_last ws w n h e = rw (closed_at ws (Some w) e, zero_is w h) (then_found (not (is_zero w)) n)

pub closed_at_none : (ws : List ℤ) → slice_get ws (length ws - 1) ≡ None → closed ws ≡ true
unfolding is_zero
closed_at_none ws e = closed_at ws None e
