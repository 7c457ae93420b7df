-- What the writer's first pass finds of a word list: internal, for its contract. Assumes nothing.
use Rattle.std.specs.Prelude.{◌≡◌, cond, List, ℕ, ◌+◌, min, ℤ, nat_abs, length}
use Rattle.lists.specs.Upto.{sum_to, count_to}
use Rattle.lists.specs.Signed.{is_zero, is_negative}
use Rattle.decimal.specs.Digits.{digits}
use Rattle.cnf.specs.Lent.{word, beyond_at}

-- how many bytes a word has as text, with the byte after it, where no more than seven digits are counted
unfoldable pub word_size : ℤ → ℕ
word_size z = min 7 (length (digits (nat_abs z))) + cond (is_negative z) 1 0 + 1

-- of the first n words: how many are 0, how many are literals beyond v, and how many bytes they have
pub record Surveyed (v : ℕ) (ws : List ℤ) (n clauses past size : ℕ) : Type 0 where
  pub closing : clauses ≡ count_to n (λ k. is_zero (word ws k))
  pub out_of_range : past ≡ count_to n (beyond_at v ws)
  pub bytes : size ≡ sum_to n (λ k. word_size (word ws k))
