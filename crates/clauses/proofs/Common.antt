-- What our list and the encodings by paths have in common: the option clauses, T, not F, root, and T1 to T4; and how unit
-- propagation goes through them. T5 has no part in it. Assumes nothing.
use mathlib.Core.Path.{◌≡◌, refl, sym, subst}
use mathlib.Core.Logic.{inl, ⊎_elim}
use mathlib.Core.List.Memᴰ
use mathlib.Core.List.{List, [], ◌∷◌, ◌++◌, Memᴰ}
use Prim.Native.Nat.{ℕ, ◌<◌}
use lib.IntN.{ℤ, neg_ℤ}
use Rattle.lists.specs.Upto.{up_to}
use Rattle.lists.proofs.UptoLaws.{in_list}
use Rattle.cnf.specs.Clause.{Clause, plain, negated, Among, Reached, unit, Conflict}
use Rattle.cnf.proofs.Propagation.{unit_each, first_reached, second_reached}
use Rattle.diagram.specs.Lent.{Lent, options, nodes, domain, width, Build}
use Rattle.diagram.specs.Numbers.{first_value, values}
use Rattle.clauses.specs.Variables.{value_variable, reference_variable, node_variable, edge_variable, target_variable, asked_variable}
use Rattle.clauses.specs.Clauses.{Edition, units, t1, t2, t3, t4, edge_clauses, node_clauses, first_helper, option_clauses, clauses}
use Rattle.clauses.specs.Editions.{ExactlyOne}
use Rattle.clauses.proofs.ExactlyOneLaws.{rules_out_in}
use Rattle.clauses.proofs.OneOf.{one_of_out}

pub record Common (e : Edition) (d : Lent) (cs : List Clause) : Type 0 where
  pub has_option : (i : ℕ) → i < options d → Among (option_clauses e d i) cs
  pub has_units : Among (units (values d)) cs
  pub has_t1 : (v : ℕ) → v < nodes d → Memᴰ (t1 (node_variable d v) (λ j. edge_variable d v j) (width d v)) cs
  pub has_t2 : (v j : ℕ) → v < nodes d → j < width d v → Memᴰ (t2 (edge_variable d v j) (node_variable d v)) cs
  pub has_t3 : (v j : ℕ) → v < nodes d → j < width d v → Memᴰ (t3 (edge_variable d v j) (target_variable d v j)) cs
  pub has_t4 : (v j : ℕ) → v < nodes d → j < width d v → Memᴰ (t4 (edge_variable d v j) (asked_variable d v j)) cs

-- ---- the list has them

module _ (e : Edition) (d : Lent) where
  in_node : (v : ℕ) → v < nodes d → Among (node_clauses d v) (clauses e d)
  unfolding clauses
  in_node v h c m = Memᴰ.append_right (up_to (options d) (option_clauses e d)) (Memᴰ.append_right (units (values d)) (in_list (node_clauses d) (nodes d) v h m))

  pub in_edge : (v j : ℕ) → v < nodes d → j < width d v → Among (edge_clauses d v j) (clauses e d)
  in_edge v j h l c m = in_node v h c (Memᴰ.tail (in_list (edge_clauses d v) (width d v) j l m))

  pub clauses_common : Common e d (clauses e d)
  unfolding clauses
  clauses_common =
      record {
        has_option = λ i h c m. Memᴰ.append_left (units (values d) ++ up_to (nodes d) (node_clauses d)) (in_list (option_clauses e d) (options d) i h m);
        has_units = λ c m. Memᴰ.append_right (up_to (options d) (option_clauses e d)) (Memᴰ.append_left (up_to (nodes d) (node_clauses d)) m);
        has_t1 = λ v h. in_node v h _ (Memᴰ.head refl);
        has_t2 = λ v j h l. in_edge v j h l _ (Memᴰ.head refl);
        has_t3 = λ v j h l. in_edge v j h l _ (Memᴰ.tail (Memᴰ.head refl));
        has_t4 = λ v j h l. in_edge v j h l _ (Memᴰ.tail (Memᴰ.tail (Memᴰ.head refl)));
      }

-- ---- propagation through them

-- the value of each option of a build is reached
abbrev pub Chooses : Lent → (ℕ → ℕ) → (ℤ → Type 0) → List Clause → Type 0
Chooses d x Given cs = (i : ℕ) → i < options d → Reached Given cs (plain (value_variable d i (x i)))

module _ {e : Edition} {d : Lent} {cs : List Clause} (has : Common e d cs) {Given : ℤ → Type 0} where
  pub true_reached : Reached Given cs (plain (reference_variable d 1))
  true_reached = unit_each (plain (reference_variable d 1) ∷ []) (has.has_units _ (Memᴰ.head refl)) (Memᴰ.head refl) (inl refl, tt)

  pub false_out : Reached Given cs (negated (reference_variable d 0))
  false_out = unit_each (negated (reference_variable d 0) ∷ []) (has.has_units _ (Memᴰ.tail (Memᴰ.head refl))) (Memᴰ.head refl) (inl refl, tt)

  -- with the root ruled out its own clause is a conflict
  pub root_conflict : Reached Given cs (negated (reference_variable d 2)) → Conflict Given cs
  root_conflict r =
      record {
        clause = plain (reference_variable d 2) ∷ [];
        among = has.has_units _ (Memᴰ.tail (Memᴰ.tail (Memᴰ.head refl)));
        against = λ m mm. subst (λ (l : ℤ). Reached Given cs (neg_ℤ l)) (sym (Memᴰ.eq_of_singleton mm)) r;
      }

  -- a build's values rule out the others
  pub value_out : ExactlyOne e → (x : ℕ → ℕ) → Build d x → Chooses d x Given cs → (i j : ℕ) → i < options d → j < domain d i → (j ≡ x i → ⊥) → Reached Given cs (negated (value_variable d i j))
  value_out one x b chosen i j h hj n = rules_out_in one (first_value d i) (first_helper e d i) (domain d i) (has.has_option i h) j (x i) hj (b i h) n (chosen i h)

  module _ (v : ℕ) (hv : v < nodes d) where
    -- T1: a node with its edges ruled out is ruled out
    pub t1_step : ((j : ℕ) → j < width d v → Reached Given cs (negated (edge_variable d v j))) → Reached Given cs (negated (node_variable d v))
    t1_step f = unit (t1 (node_variable d v) (λ j. edge_variable d v j) (width d v)) (has.has_t1 v hv) (Memᴰ.head refl) (λ m mm ne. ⊎_elim (λ (q : m ≡ negated (node_variable d v)). absurd (ne q)) (one_of_out (λ j. edge_variable d v j) (width d v) (Reached Given cs) f m) (Memᴰ.cases_cons mm))

    module _ (j : ℕ) (hj : j < width d v) where
      -- T2: an edge reaches its node
      pub t2_step : Reached Given cs (plain (edge_variable d v j)) → Reached Given cs (plain (node_variable d v))
      t2_step = second_reached (has.has_t2 v j hv hj)

      -- T3 and T4: an edge with its target, or its value, ruled out is ruled out
      pub t3_step : Reached Given cs (negated (target_variable d v j)) → Reached Given cs (negated (edge_variable d v j))
      t3_step = first_reached (has.has_t3 v j hv hj)

      pub t4_step : Reached Given cs (negated (asked_variable d v j)) → Reached Given cs (negated (edge_variable d v j))
      t4_step = first_reached (has.has_t4 v j hv hj)
