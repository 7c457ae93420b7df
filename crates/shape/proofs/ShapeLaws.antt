-- What the rules 1 and 2 read: the domains alone. Assumes nothing.
use Rattle.std.specs.Prelude.{◌≡◌, List, [], ℕ, refl}
use Rattle.std.proofs.Common.{sym, ◌∙◌, ap}
use Rattle.refusal.specs.Rules.{Rule, and_then, chain}
use Rattle.refusal.proofs.RulesLaws.{chain-append}
use Rattle.diagram.specs.Lent.{lent}
use Rattle.diagram.specs.Rules.{option_rules, node_rules, shape_rules}

pub same_option_rules : (ds ls : List ℕ) → option_rules (lent ds [] []) ≡ option_rules (lent ds ls [])
unfolding option_rules
same_option_rules ds ls = refl

-- numbers 1 and 2 are looked for first: what they refuse stands, and where they pass 3 and 4 decide
pub shape_in_parts : (ds ls : List ℕ) → chain (shape_rules (lent ds ls [])) ≡ and_then (chain (option_rules (lent ds [] []))) (chain (node_rules (lent ds ls [])))
shape_in_parts ds ls = chain-append (option_rules (lent ds ls [])) _ ∙ ap (λ (rs : List Rule). and_then (chain rs) (chain (node_rules (lent ds ls [])))) (sym (same_option_rules ds ls))
