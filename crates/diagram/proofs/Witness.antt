-- No promise here is empty: some diagram is sound, and each number from 1 to 6 is due for some diagram. Assumes nothing.
use Rattle.std.specs.Prelude.{Ok, Err}
use mathlib.Core.Path.{◌≡◌, refl}
use mathlib.Core.List.{List, [], ◌∷◌, map}
use Rattle.lists.specs.Upto.{sum_to, last_to}
use Rattle.lists.specs.First.{first}
use Rattle.refusal.specs.Rules.{refusal, chain}
use Rattle.diagram.specs.Lent.{Lent, lent, first_edge}
use Rattle.diagram.specs.Sound.{Sound}
use Rattle.diagram.specs.Rules.{bad_layer, permits, owner, bad_target, option_rules, node_rules, target_rules, check_rules}
use Rattle.diagram.proofs.SoundLaws.{passed_sound}

-- two options of two values, a root and one node of layer 2
abbrev pub sample : Lent
sample = lent (2 ∷ 2 ∷ []) (1 ∷ 2 ∷ []) (3 ∷ 0 ∷ 0 ∷ 1 ∷ [])

-- each spoils it in one way
abbrev pub spoilt : List Lent
spoilt =
    lent [] (1 ∷ 2 ∷ []) (3 ∷ 0 ∷ 0 ∷ 1 ∷ [])
    ∷ lent (2 ∷ 33 ∷ []) (1 ∷ 2 ∷ []) (3 ∷ 0 ∷ 0 ∷ 1 ∷ [])
    ∷ lent (2 ∷ 2 ∷ []) [] (3 ∷ 0 ∷ 0 ∷ 1 ∷ [])
    ∷ lent (2 ∷ 2 ∷ []) (1 ∷ 1 ∷ []) (3 ∷ 0 ∷ 0 ∷ 1 ∷ [])
    ∷ lent (2 ∷ 2 ∷ []) (1 ∷ 2 ∷ []) (3 ∷ 0 ∷ 0 ∷ [])
    ∷ lent (2 ∷ 2 ∷ []) (1 ∷ 2 ∷ []) (3 ∷ 0 ∷ 0 ∷ 3 ∷ [])
    ∷ []

pub verdicts : map (λ (d : Lent). chain (check_rules d)) (sample ∷ spoilt)
    ≡ Ok tt ∷ Err (refusal 1 0) ∷ Err (refusal 2 1) ∷ Err (refusal 3 0) ∷ Err (refusal 4 1) ∷ Err (refusal 5 0) ∷ Err (refusal 6 3) ∷ []
unfolding sum_to last_to first chain first_edge bad_layer permits owner bad_target option_rules node_rules target_rules check_rules
verdicts = refl

pub sample_sound : Sound sample
unfolding sum_to last_to first chain first_edge bad_layer permits owner bad_target option_rules node_rules target_rules check_rules
sample_sound = passed_sound sample refl
