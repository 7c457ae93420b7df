-- What is kept of a reading where the digits that are no decimal are left out. Assumes nothing.
use mathlib.Core.Path.{◌≡◌, refl, ap, ◌∙◌}
use mathlib.Core.Bool.{Bool, true, false, cond}
use mathlib.Core.List.{List}
use Prim.Native.Nat.{ℕ}
use Rattle.std.specs.Prelude.{Option, Some, None, Result, Ok, Err}
use Rattle.std.specs.Result.{result_ok}
use Rattle.decimal.specs.Reading.{digits_at, decimal_at, reading_at, read_at}
use Rattle.decimal.specs.declared.Reading.{Reading}

pub ok_read : (text : List ℕ) (at : ℕ) {r : Result Reading Reading} {q : Option Reading} → r ≡ read_at text at → q ≡ result_ok r → q ≡ reading_at text at
ok_read text at e f = f ∙ ap result_ok e ∙ go (decimal_at text at)
  where
    go : (t : Bool) → result_ok (cond t (Ok (digits_at text at)) (Err (digits_at text at))) ≡ cond t (Some (digits_at text at)) None
    go true = refl
    go false = refl
