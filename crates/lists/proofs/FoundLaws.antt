-- What the library's `then_some` finds, in the words of specs/. Assumes nothing.
use Rattle.std.specs.Prelude.{◌≡◌, Bool, true, false, ℕ, refl}
use Rattle.std.specs.Bool.{then_some}
use Rattle.lists.specs.First.{found_if}

pub then_found : (b : Bool) (n : ℕ) → then_some b n ≡ found_if b n
then_found true n = refl
then_found false n = refl
