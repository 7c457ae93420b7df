-- What the functions inside `judge_file` say to each other: where they stand in the file, and what they found. Assumes
-- nothing.
use Rattle.std.specs.Prelude.{◌≡◌, Result, Ok, Err, List, ℕ, ◌*◌, ◌≤◌, length}
use Rattle.refusal.specs.Rules.{Rule, chain}
use Rattle.refusal.specs.declared.Refusal.{Refusal}
use Rattle.diagram_file.specs.Lines.{line_start}
use Rattle.file_judge.specs.declared.Cursor.{Cursor}

module _ (text : List ℕ) where
  -- the cursor stands at the beginning of a line, and each line before it has two bytes at least
  pub record Stands (c : Cursor) : Type 0 where
    pub begins : c.at ≡ line_start text c.line
    pub inside : c.at ≤ length text
    pub few : 2 * c.line ≤ c.at

  -- the rules of some lines: the first refusal that is due, or the line k after them
  abbrev pub Judged : List Rule → ℕ → Result Cursor Refusal → Type 0
  Judged rules k (Err r) = chain rules ≡ Err r
  Judged rules k (Ok next) = (chain rules ≡ Ok tt) × Stands next × (next.line ≡ k)
