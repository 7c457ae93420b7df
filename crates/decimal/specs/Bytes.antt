-- Bytes at a place of a text, and bytes put into a lent buffer. Assumes nothing.
use Rattle.std.specs.Prelude.{◌≡◌, Bool, true, false, cond, ◌&&◌, List, [], ◌∷◌, ℕ, ◌+◌, leb, eqb, length, drop}
use Rattle.std.proofs.Common.{sym, ◌∙◌}
use Rattle.std.proofs.lemmas.List.Edits.{sets}

-- the byte that ends a line
abbrev pub line_feed : ℕ
line_feed = 10

-- the text begins with the key
unfoldable pub starts_with : List ℕ → List ℕ → Bool
starts_with [] s = true
starts_with (k ∷ ks) [] = false
starts_with (k ∷ ks) (b ∷ bs) = eqb b k && starts_with ks bs

-- the key stands in the text from `at` on
abbrev pub has_at : List ℕ → ℕ → List ℕ → Bool
has_at text at key = starts_with key (drop at text)

-- the buffer with the bytes stored from `at` on; one that is too short for them there is kept
abbrev pub put_at : List ℕ → ℕ → List ℕ → List ℕ
put_at bytes at buffer = cond (leb (at + length bytes) (length buffer)) (sets buffer at bytes) buffer

-- what a function promises that puts bytes into a lent buffer from `at` on, if they fit: how many they are, and what the
-- buffer holds afterwards
pub record PutPromise (bytes : List ℕ) (at : ℕ) (before : List ℕ) (count : ℕ) (after : List ℕ) : Type 0 where
  pub counts : count ≡ length bytes
  pub buffer : after ≡ put_at bytes at before

-- any two outcomes that the promise allows are equal
pub put_one_outcome : (bytes : List ℕ) (at : ℕ) (before : List ℕ) (n m : ℕ) (after after' : List ℕ) → PutPromise bytes at before n after → PutPromise bytes at before m after' → (n ≡ m) × (after ≡ after')
put_one_outcome bytes at before n m after after' p q = (p.counts ∙ sym q.counts, p.buffer ∙ sym q.buffer)
