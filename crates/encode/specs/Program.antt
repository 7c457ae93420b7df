-- What the program writes. Assumes nothing.
use Rattle.std.specs.Prelude.{List, ℕ, Option}
use Rattle.std.specs.Io.KnownBytes.{Appends}
use Rattle.desk.specs.Promise.{Printed}
use Rattle.desk.specs.declared.DeskRun.{DeskRun}
use Rattle.desk.specs.declared.DeskRun.TheVariants.{Text, Told, Refused}

-- how many bytes at the front of a lent buffer are printed
abbrev pub told_count : DeskRun → ℕ
told_count (Text n) = n
told_count (Told n r) = n
told_count (Refused r) = 0

-- known bytes grow by what is to be printed for an input
abbrev pub PrintedOn : List ℕ → Option (List ℕ) → Option (List ℕ) → Type 0
PrintedOn input old new = (outcome : DeskRun) × (bytes : List ℕ) × Printed input outcome bytes × Appends old new bytes
