-- What `fill_part` does to a list, for every text: the values of lines as they are read one after the other. Assumes nothing.
use Rattle.std.specs.Prelude.{◌≡◌, unwrap_or, List, [], ◌∷◌, ℕ, zero, suc}
use Rattle.lists.specs.Upto.{up_to}
use Rattle.lists.specs.Buffer.{over}
use Rattle.diagram_file.specs.Lines.{line_at}
use Rattle.diagram_file.specs.declared.Line.{Line}
use Rattle.file_reader.specs.declared.Filled.{Filled}

module _ (text : List ℕ) where
  -- the line that stands there, or one of 0
  abbrev pub line_or_none : List ℕ → ℕ → Line
  line_or_none key at = unwrap_or (line_at text key at) (record { value = 0; next = 0 })

  -- where the line begins that follows j lines read from `at` on
  unfoldable pub place_after : List ℕ → ℕ → ℕ → ℕ
  place_after key at zero = at
  place_after key at (suc j) = (line_or_none key (place_after key at j)).next

  -- the values of `count` lines read from `at` on
  unfoldable pub values_read : List ℕ → ℕ → ℕ → List ℕ
  values_read key at count = up_to count (λ j. (line_or_none key (place_after key at j)).value ∷ [])

  -- the line at `at` counts the lines after it, and their values stand at the front of the list
  pub record PartFilled (key later : List ℕ) (at : ℕ) (before : List ℕ) (r : Filled) (after : List ℕ) : Type 0 where
    pub counts : r.count ≡ (line_or_none key at).value
    pub ends : r.next ≡ place_after later (line_or_none key at).next (line_or_none key at).value
    pub list : after ≡ over (values_read later (line_or_none key at).next (line_or_none key at).value) before
