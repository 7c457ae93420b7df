-- `sizes::pair_count` meets its contract: the sum that stops at the largest number of 64 bits is, cut, the whole sum cut.
-- Assumes nothing.
use Rattle.std.proofs.Common.{◌≡◌, ◌∙◌, ap, List, [], ◌∷◌, ℕ, ◌+◌, ◌-◌, ◌^◌, min, length, rules, arith}
use Rattle.std.specs.List.{fold}
use Rattle.lists.proofs.IterLaws.{sum_by_to}
use Rattle.clauses.specs.Clauses.{pair_count}
use Rattle.sizes.specs.Tallied.{cut, pair_sum}
use Rattle.sizes.proofs.pair_count.Goals as goal

abbrev top : ℕ
top = 2 ^ 64 - 1

stopped : (f : ℕ → ℕ) (a b : ℕ) (xs : List ℕ) → b ≡ min a top → fold (λ n k. min (n + f k) top) b xs ≡ min (fold (λ n k. n + f k) a xs) top
stopped f a b [] e = e
stopped f a b (x ∷ xs) e = stopped f (a + f x) (min (b + f x) top) xs (omega arith)

cut_once : (xs : List ℕ) → cut (fold (λ n k. min (n + pair_count k) top) 0 xs) ≡ cut (pair_sum xs (length xs))
cut_once xs = omega (arith, stopped pair_count 0 0 xs (omega arith), sum_by_to pair_count xs 0)

pub returns : goal.returns
returns c =
    let d = c.args.domains.now in
    let e : c.fold-pairs.result ≡ fold (λ n k. min (n + pair_count k) top) 0 d = search rules in
    c.cut_to_32.ensures ∙ ap cut e ∙ cut_once d
