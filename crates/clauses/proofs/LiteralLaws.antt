-- Every literal of a sound diagram's clauses is a variable from 1 to V, either way, in any edition whose option clauses
-- speak of their own variables; and what follows for its words. Assumes nothing.
use mathlib.Core.Path.{◌≡◌, refl}
use mathlib.Core.Logic.{◌⊎◌, inl, inr}
use mathlib.Core.Bool.{true, false}
use mathlib.Core.List.{Memᴰ}
use Prim.Native.Nat.{ℕ, zero, suc, ◌≤◌, ◌<◌}
use native.Mathlib.Omega.{arith}
use lib.IntN.{ℤ, pos, negsuc, nat_abs}
use lib.ListN.{length}
use Rattle.lists.specs.Signed.{is_zero}
use Rattle.lists.specs.Upto.{up_to}
use Rattle.lists.specs.Every.{Every, Each}
use Rattle.lists.proofs.EveryLaws.{every_more, every_both, every_up_to, each_every}
use Rattle.cnf.specs.Clause.{Clause, words}
use Rattle.cnf.specs.Words.{clauses_of, zeros, closed, NoZeros}
use Rattle.cnf.proofs.WordsLaws.{word_of, clauses_words, zeros_words, closed_words}
use Rattle.diagram.specs.Lent.{Lent, options, nodes, domain, asked, width, target}
use Rattle.diagram.specs.Numbers.{first_value, values}
use Rattle.diagram.specs.Sound.{Within, Sound}
use Rattle.diagram.proofs.ShapedLaws.{asked_in}
use Rattle.diagram.proofs.NumberLaws.{target_most}
use Rattle.clauses.specs.Variables.{reference_variable, node_variable, edge_variable}
use Rattle.clauses.specs.Clauses.{Edition, units, edge_clauses, node_clauses, first_helper, last_variable, option_clauses, clauses}
use Rattle.clauses.specs.Editions.{Literals, Own, own_value, own_helper, OwnVariables}
use Rattle.clauses.proofs.VariableLaws.{value_within, reference_within, edge_within, helper_within}
use Rattle.clauses.proofs.OneOf.{one_of_literals}

module _ (e : Edition) (d : Lent) where
  pub closed_list : closed (words (clauses e d)) ≡ true
  closed_list = closed_words (clauses e d)

  abbrev Variable : ℕ → Type 0
  Variable = Within 1 (last_variable e d)

  module _ (ok : OwnVariables e) (s : Sound d) where
    pub literal_within : (c : Clause) → Memᴰ c (clauses e d) → (l : ℤ) → Memᴰ l c → Within 1 (last_variable e d) (nat_abs l)
    unfolding clauses
    literal_within =
        every_both All (up_to (options d) (option_clauses e d))
        (every_up_to All (options d) (option_clauses e d) (λ i h c m l n. own_within i h (nat_abs l) (ok (first_value d i) (first_helper e d i) (domain d i) c m l n)))
        (every_both All (units (values d)) of_units (every_up_to All (nodes d) (node_clauses d) of_node))
      where
        All : Clause → Type 0
        All = Literals Variable

        own_within : (i : ℕ) → i < options d → (n : ℕ) → Own e (first_value d i) (first_helper e d i) (domain d i) n → Variable n
        own_within i h n (own_value j l) = value_within e d i j h l
        own_within i h n (own_helper t l) = helper_within e d i t h l

        each : (c : Clause) → Each (λ l. Variable (nat_abs l)) c → All c
        each = each_every (λ l. Variable (nat_abs l))

        of_units : Every All (units (values d))
        of_units =
            let unit : (r : ℕ) → r ≤ 2 → Variable (reference_variable d r) = λ r h. reference_within e d r (omega (arith, s.shaped.nodes_fit)) in
            each_every All (units (values d)) (each _ (unit 1 (omega arith), tt), (each _ (unit 0 (omega arith), tt), (each _ (unit 2 (omega arith), tt), tt)))

        of_node : (v : ℕ) → v < nodes d → Every All (node_clauses d v)
        of_node v h =
            every_more All (every_more (λ l. Variable (nat_abs l)) node (one_of_literals (λ j. edge_variable d v j) (width d v) Variable (λ j l. edge_within e d v j h l)))
            (every_up_to All (width d v) (edge_clauses d v) of_edge)
          where
            node : Variable (node_variable d v)
            node = reference_within e d (suc (suc v)) (omega arith)

            of_edge : (j : ℕ) → j < width d v → Every All (edge_clauses d v j)
            of_edge j l =
                let edge = edge_within e d v j h l in
                let target = reference_within e d (target d v j) (omega (arith, target_most d s v j h l)) in
                let value = value_within e d (asked d v) j (asked_in d s.shaped v h) l in
                each_every All (edge_clauses d v j) (each _ (edge, (node, tt)), (each _ (edge, (target, tt)), (each _ (edge, (value, tt)), (each _ (target, (value, (edge, tt))), tt))))

    no_zeros : NoZeros (clauses e d)
    unfolding is_zero
    no_zeros c m l n = go l (literal_within c m l n).0
      where
        go : (l : ℤ) → 1 ≤ nat_abs l → is_zero l ≡ false
        go (pos zero) h = absurd (omega arith)
        go (pos (suc n)) h = refl
        go (negsuc n) h = refl

    pub zeros_list : zeros (words (clauses e d)) ≡ length (clauses e d)
    zeros_list = zeros_words (clauses e d) no_zeros

    pub clauses_back : clauses_of (words (clauses e d)) ≡ clauses e d
    clauses_back = clauses_words (clauses e d) no_zeros

    pub word_within : (w : ℤ) → Memᴰ w (words (clauses e d)) → (w ≡ pos 0) ⊎ Within 1 (last_variable e d) (nat_abs w)
    word_within w m = go (word_of (clauses e d) m)
      where
        go : (w ≡ pos 0) ⊎ ((c : Clause) × Memᴰ c (clauses e d) × Memᴰ w c) → (w ≡ pos 0) ⊎ Within 1 (last_variable e d) (nat_abs w)
        go (inl e) = inl e
        go (inr t) = inr (literal_within t.0 t.1 w t.2)
