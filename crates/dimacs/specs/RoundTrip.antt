-- What it is that a word list comes back from its text. Assumes nothing.
use Rattle.std.specs.Prelude.{◌≡◌, List, ℕ, ◌≤◌, ℤ, length, take}
use Rattle.lists.specs.Buffer.{over}
use Rattle.dimacs.specs.Write.{WritePromise}
use Rattle.dimacs.specs.Read.{tally_read, ReadPromise}
use Rattle.dimacs.specs.declared.TextWritten.TheVariants.{Written}
use Rattle.dimacs.specs.declared.WriteAnswer.{WriteAnswer}
use Rattle.dimacs.specs.declared.TextRead.TheVariants.{Read}
use Rattle.dimacs.specs.declared.ReadAnswer.{ReadAnswer}

-- where `write_text` has answered that it wrote n bytes of text for V = v and the words, `read_text` of these bytes, with a
-- list lent that is long enough, answers their number, the number of their zeros, and v; and the list holds the words
abbrev pub GivesBack : ℕ → List ℤ → Type 0
GivesBack v ws = (before page : List ℕ) (written : WriteAnswer) (n : ℕ) → WritePromise v ws before written page → written.outcome ≡ Written n
    → (lent list : List ℤ) (read : ReadAnswer) → ReadPromise (take n page) lent read list → length ws ≤ length lent
    → (read.outcome ≡ Read (tally_read ws v)) × (list ≡ over ws lent)
