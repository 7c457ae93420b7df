-- No promise here is empty: of one sound diagram a build is allowed, one is not, and one each is refused by 8 and by 9.
-- Assumes nothing.
use mathlib.Core.Path.{◌≡◌, refl}
use mathlib.Core.Bool.{cond}
use mathlib.Core.List.{List, [], ◌∷◌, map}
use Prim.Native.Nat.{ℕ}
use Rattle.lists.specs.Upto.{sum_to, last_to}
use Rattle.lists.specs.First.{first}
use Rattle.refusal.specs.Rules.{refusal, chain}
use Rattle.refusal.specs.Said.{refused, result_of, saying}
use Rattle.diagram.specs.Lent.{first_edge, step, walk}
use Rattle.diagram.specs.Rules.{bad_layer, permits, owner, bad_target, option_rules, node_rules, target_rules, check_rules}
use Rattle.diagram.proofs.Witness.{sample}
use Rattle.judge.specs.Build.{build_rules, judge_rules}
use Rattle.judge.specs.Promise.{allows_test}

pub builds : map (λ (b : List ℕ). saying (chain (judge_rules sample b)) (cond (allows_test sample b) 1 0 ∷ [])) ((0 ∷ 1 ∷ []) ∷ (1 ∷ 1 ∷ []) ∷ (0 ∷ []) ∷ (0 ∷ 2 ∷ []) ∷ [])
    ≡ result_of (1 ∷ []) ∷ result_of (0 ∷ []) ∷ refused (refusal 8 0) ∷ refused (refusal 9 1) ∷ []
unfolding sum_to last_to first chain first_edge step walk bad_layer permits owner bad_target option_rules node_rules target_rules check_rules build_rules judge_rules
builds = refl
