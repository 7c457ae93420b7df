-- Sums, lists and counts built index by index: what a loop that goes from 0 to n - 1 has built when it stands at n.
-- Assumes nothing.
use Rattle.std.specs.Prelude.{Bool, cond, List, [], ◌++◌, ℕ, zero, suc, ◌+◌}

-- f 0 + f 1 + .. + f (n - 1)
unfoldable pub sum_to : ℕ → (ℕ → ℕ) → ℕ
sum_to zero f = zero
sum_to (suc n) f = sum_to n f + f n

-- f 0 ++ f 1 ++ .. ++ f (n - 1)
unfoldable pub up_to {ℓ} : {A : Type ℓ} → ℕ → (ℕ → List A) → List A
up_to zero f = []
up_to (suc n) f = up_to n f ++ f n

-- at how many indices below n the test holds
unfoldable pub count_to : ℕ → (ℕ → Bool) → ℕ
count_to n test = sum_to n (λ k. cond (test k) 1 0)

-- the last index below n at which the test holds, or 0
unfoldable pub last_to : ℕ → (ℕ → Bool) → ℕ
last_to zero test = zero
last_to (suc n) test = cond (test n) n (last_to n test)
