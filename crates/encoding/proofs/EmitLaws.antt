-- The whole list by its three parts; and a sound diagram's node by the part of the targets that is lent to its emitter, which
-- writes it: its numbers are few enough. Assumes nothing.
use mathlib.Core.Path.{◌≡◌, sym, ◌∙◌, ap}
use mathlib.Core.List.{List, [], ◌∷◌, ◌++◌}
use Prim.Native.Nat.{ℕ, suc, ◌+◌, ◌-◌, ◌%◌, ◌≤◌, ◌<◌}
use native.Mathlib.Nat.{le_refl}
use native.Mathlib.Omega.{arith}
use lib.ListN.{length, get_or, take, drop}
use lib.Seq.{get_or-take, get_or-drop}
use lib.IntN.{ℤ}
use Rattle.lists.specs.Upto.{up_to}
use Rattle.lists.proofs.UptoLaws.{list_same}
use Rattle.cnf.specs.Clause.{Clause, negated, words}
use Rattle.cnf.proofs.WordsLaws.{words_append}
use Rattle.diagram.specs.Lent.{Lent, lent, options, nodes, asked, width, first_edge, leads, target}
use Rattle.diagram.specs.Sound.{Sound}
use Rattle.diagram.specs.Numbers.{edge_number, first_value, values}
use Rattle.diagram.proofs.ShapedLaws.{asked_in, edge_sums, edges_most, width_within}
use Rattle.diagram.proofs.RangeLaws.{part_length}
use Rattle.diagram.proofs.NumberLaws.{value_sums, values_most, target_most}
use Rattle.clauses.specs.Variables.{value_variable, reference_variable, node_variable, edge_variable, target_variable, asked_variable}
use Rattle.clauses.specs.Clauses.{edition1, units, t2to5, t1, edge_clauses, node_clauses, option_clauses, clauses}
use Rattle.encoding.specs.Emit.{edge_from, lent_node, lent_numbers}
use Rattle.encoding.specs.declared.Bases.{Bases}
use Rattle.encoding.proofs.ClauseLaws.{run_same}

-- ---- the whole list

pub list_words : (ds ls ts : List ℕ) {D : ℕ} → D ≡ values (lent ds ls ts) → words (up_to (length ds) (option_clauses edition1 (lent ds [] []))) ++ (words (units D) ++ words (up_to (length ls) (node_clauses (lent ds ls ts)))) ≡ words (clauses edition1 (lent ds ls ts))
unfolding clauses first_value
list_words ds ls ts e =
    let d = lent ds ls ts in
    rw e
    (sym (words_append (up_to (options d) (option_clauses edition1 d)) (units (values d) ++ up_to (nodes d) (node_clauses d)) ∙ ap (λ (ws : List ℤ). words (up_to (options d) (option_clauses edition1 d)) ++ ws) (words_append (units (values d)) (up_to (nodes d) (node_clauses d)))))

-- ---- node v of a sound diagram, by the part of the targets that is lent to its emitter

module _ (d : Lent) (s : Sound d) {D n : ℕ} (e_d : D ≡ values d) (en : n ≡ nodes d) (v : ℕ) (h : v < nodes d) {b edge : ℕ} (eb : b ≡ first_value d (asked d v)) (ee : edge ≡ first_edge d v) where
  abbrev part : List ℕ
  part = take (edge + width d v - edge) (drop edge d.targets)

  within : first_edge d v + width d v ≤ length d.targets
  within = omega (arith, s.counted, (edge_sums d).room v (nodes d) h)

  as_wide : length part ≡ width d v
  as_wide = part_length d.targets edge (edge + width d v) (omega (arith, within)) ∙ omega arith

  part_target : (j : ℕ) → j < width d v → get_or part j 0 ≡ target d v j
  part_target j l =
      get_or-take (edge + width d v - edge) (drop edge d.targets) j 0 (omega arith)
      ∙ get_or-drop edge d.targets j 0
      ∙ ap (λ (e : ℕ). leads d (e + j)) ee

  -- it is none that the emitter changes
  part_leads : (j : ℕ) → j < width d v → get_or part j 0 % 1048576 ≡ target d v j
  part_leads j l = let e = part_target j l in omega (arith, target_most d s v j h l, s.shaped.nodes_fit)

  pub part_few : lent_numbers D n b edge part v ≤ 1000000
  part_few =
      omega (
        arith,
        as_wide,
        width_within d s.shaped v h,
        s.shaped.nodes_fit,
        values_most d s.shaped (options d) (le_refl _),
        (value_sums d).room (asked d v) (options d) (asked_in d s.shaped v h),
        (edge_sums d).room v (nodes d) h,
        edges_most d s.shaped (nodes d) (le_refl _),
      )

  abbrev bases : Bases
  bases = record { node = node_variable d v; edge = edge_number (values d) (nodes d) edge; value = value_variable d (asked d v) 0; reference = reference_variable d 0 }

  pub part_node : lent_node D n b edge part v ≡ node_clauses d v
  part_node =
      let two : v + 2 ≡ suc (suc v) = omega arith in
      rw (e_d, en, eb, as_wide, two)
      (ap (λ (c : Clause). c ∷ up_to (width d v) (edge_from bases part)) heads
      ∙ ap (λ (cs : List Clause). t1 (node_variable d v) (edge_variable d v) (width d v) ∷ cs) (list_same _ _ (width d v) each))
    where
      heads : t1 (node_variable d v) (λ j. edge_number (values d) (nodes d) edge + j) (width d v) ≡ t1 (node_variable d v) (edge_variable d v) (width d v)
      heads = ap (λ (c : Clause). negated (node_variable d v) ∷ c) (run_same _ _ (width d v) (λ j. omega (arith, ee)))

      same : {e m x e' m' x' : ℕ} → e ≡ e' → m ≡ m' → x ≡ x' → t2to5 e (node_variable d v) m x ≡ t2to5 e' (node_variable d v) m' x'
      same p q r = rw (p, q, r)

      each : (j : ℕ) → j < width d v → edge_from bases part j ≡ edge_clauses d v j
      each j l =
          let p : edge_number (values d) (nodes d) edge + j ≡ edge_variable d v j = omega (arith, ee) in
          let q : reference_variable d 0 + get_or part j 0 % 1048576 ≡ target_variable d v j = omega (arith, part_leads j l) in
          let r : value_variable d (asked d v) 0 + j ≡ asked_variable d v j = omega arith in
          same p q r
