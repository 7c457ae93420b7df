-- The same table as tests that compute: the rules 1 to 6 in order. Assumes nothing.
use Rattle.std.specs.Prelude.{Bool, true, not, cond, ◌&&◌, ◌||◌, List, [], ◌∷◌, ◌++◌, ℕ, zero, suc, ◌+◌, ◌-◌, length, ltb, leb, eqb}
use Rattle.lists.specs.Upto.{last_to}
use Rattle.lists.specs.First.{found_if, first}
use Rattle.refusal.specs.Rules.{Rule, rule}
use Rattle.diagram.specs.Lent.{Lent, options, nodes, domain, layer, first_edge, edges, leads}

-- x does not lie in low to high
abbrev pub outside : ℕ → ℕ → ℕ → Bool
outside low high x = ltb x low || ltb high x

-- the layer of a node after the root lies outside 2 to n, or falls below the one before it
abbrev pub breaks_rule : ℕ → ℕ → ℕ → Bool
breaks_rule n before i = outside 2 n i || ltb i before

module _ (d : Lent) where
  abbrev pub bad_domain : ℕ → Bool
  bad_domain i = outside 1 32 (domain d i)

  unfoldable pub bad_layer : ℕ → Bool
  bad_layer v = cond (eqb v 0) (not (eqb (layer d v) 1)) (breaks_rule (options d) (layer d (v - 1)) (layer d v))

  -- an edge from layer i may lead to the reference
  unfoldable pub permits : ℕ → ℕ → Bool
  permits i zero = true
  permits i (suc zero) = eqb i (options d)
  permits i (suc (suc w)) = ltb i (options d) && (ltb w (nodes d) && eqb (layer d w) (i + 1))

  -- the node whose edge e is: the last one whose edges begin at e or before
  unfoldable pub owner : ℕ → ℕ
  owner e = last_to (nodes d) (λ v. leb (first_edge d v) e)

  unfoldable pub bad_target : ℕ → Bool
  bad_target e = not (permits (layer d (owner e)) (leads d e))

  unfoldable pub option_rules : List Rule
  option_rules =
      rule 1 (found_if (outside 1 64 (options d)) 0)
      ∷ rule 2 (first bad_domain (options d))
      ∷ []

  unfoldable pub node_rules : List Rule
  node_rules =
      rule 3 (found_if (outside 1 4096 (nodes d)) 0)
      ∷ rule 4 (first bad_layer (nodes d))
      ∷ []

  -- the shape: the domains and the layers
  abbrev pub shape_rules : List Rule
  shape_rules = option_rules ++ node_rules

  unfoldable pub target_rules : List Rule
  target_rules =
      rule 5 (found_if (not (eqb (length d.targets) (edges d))) 0)
      ∷ rule 6 (first bad_target (edges d))
      ∷ []

  unfoldable pub check_rules : List Rule
  check_rules = shape_rules ++ target_rules
