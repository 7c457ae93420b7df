-- A turn of each loop that writes clauses: what is lent to the emitter, and what the whole buffer holds when it comes back.
-- Assumes nothing.
use Rattle.std.specs.Prelude.{◌≡◌, List, [], ◌++◌, ℕ, ◌+◌, ◌-◌, ◌≤◌, ◌<◌, length, get_or, take, drop}
use Rattle.std.proofs.Common.{sym, ◌∙◌, ap, subst, arith}
use native.Mathlib.Nat.{le_refl}
use lib.IntN.{ℤ}
use lib.ListN.{length-drop}
use lib.Seq.{get_or-take, get_or-drop, length-take-le}
use borrow.Rule.Slice.PartMut.{mid_of, put_mid}
use Rattle.lists.specs.Upto.{up_to}
use Rattle.lists.specs.Buffer.{Wrote, Front}
use Rattle.lists.proofs.BufferLaws.{room, part_room, front_in_part, first_room, then_room, then, to_front, wrote_as}
use Rattle.cnf.specs.Clause.{words}
use Rattle.diagram.specs.Lent.{Lent, lent, options, nodes, layer, asked, width, first_edge}
use Rattle.diagram.specs.Numbers.{value_number, first_value, values}
use Rattle.diagram.specs.Sound.{Within, Sound}
use Rattle.diagram.specs.Promise.{counts_of}
use Rattle.diagram.specs.declared.Diagram.{Diagram}
use Rattle.diagram.proofs.NumberLaws.{value_sums, values_most, same_values}
use Rattle.diagram.proofs.ShapedLaws.{layer_within, edge_sums, edges_most}
use Rattle.clauses.specs.Clauses.{pairwise, edition1, option_clauses, units, node_clauses, clauses}
use Rattle.encoding.specs.Emit.{lent_node, lent_numbers, EmitPromise}
use Rattle.encoding.proofs.ClauseLaws.{each_room, emitted}
use Rattle.encoding.proofs.EmitLaws.{list_words, part_few, part_node}

-- what an emitter wrote into the part that it was lent, seen in the whole
pub part_emitted : {n : ℕ} {ws l l' : List ℤ} {at r : ℕ} → at + length ws ≤ length l → n ≤ 1000000 → EmitPromise n ws (mid_of at (length l - at) l) l' r → Wrote l at ws (put_mid at (length l - at) l l') (at + r)
part_emitted {ws = ws} {l = l} {at = at} fits few e = front_in_part l at fits (emitted _ ws _ few (part_room l at (length ws) fits) e)

-- ---- option i, with as many values before it as `before`

module _ (ds : List ℕ) (bound : first_value (lent ds [] []) (length ds) ≤ 2048) {at : ℕ} {orig : List ℤ} (room0 : at + length (words (up_to (length ds) (option_clauses edition1 (lent ds [] [])))) ≤ length orig) {i p before : ℕ} {out : List ℤ} (hi : i < length ds) (is-before : before ≡ first_value (lent ds [] []) i) (wrote : Wrote orig at (up_to i (λ i. words (option_clauses edition1 (lent ds [] []) i))) out p) where
  pub option_here : words (pairwise before (get_or ds i 0)) ≡ words (option_clauses edition1 (lent ds [] []) i)
  option_here = ap (λ (b : ℕ). words (pairwise b (get_or ds i 0))) is-before

  pub option_within : before + get_or ds i 0 ≤ 2048
  option_within = omega (arith, is-before, (value_sums (lent ds [] [])).room i _ hi, bound)

  pub option_fits : p + length (words (pairwise before (get_or ds i 0))) ≤ length out
  option_fits = omega (arith, ap length option_here, room (λ i. words (option_clauses edition1 (lent ds [] []) i)) wrote (each_room _ (option_clauses edition1 (lent ds [] [])) at _ room0) hi)

  pub option_front : {l' : List ℤ} {r : ℕ} → EmitPromise (value_number before (get_or ds i 0)) (words (pairwise before (get_or ds i 0))) (mid_of p (length out - p) out) l' r → Wrote out p (words (pairwise before (get_or ds i 0))) (put_mid p (length out - p) out l') (p + r)
  option_front = part_emitted option_fits (omega (arith, option_within))

-- ---- the values of the options from i to before `option`, of which k are counted

module _ (ds : List ℕ) (bound : first_value (lent ds [] []) (length ds) ≤ 2048) {i option k n : ℕ} (h : (i ≤ option) × (option ≤ length ds)) (lk : k < length (take (option - i) (drop i ds))) (is-n : n ≡ first_value (lent ds [] []) (i + k)) where
  before_option : i + k < option
  before_option = omega (arith, lk, h.0, h.1, length-take-le (option - i) (drop i ds) (omega (arith, h.0, h.1, length-drop i ds)))

  its_domain : get_or (take (option - i) (drop i ds)) k 0 ≡ get_or ds (i + k) 0
  its_domain = get_or-take (option - i) (drop i ds) k 0 (omega (arith, before_option)) ∙ get_or-drop i ds k 0

  pub its_values : n + get_or (take (option - i) (drop i ds)) k 0 ≡ first_value (lent ds [] []) (i + k + 1)
  its_values = rw its_domain (omega (arith, is-n, (value_sums (lent ds [] [])).more (i + k)))

  pub few_so_far : n + get_or (take (option - i) (drop i ds)) k 0 ≤ 2048
  few_so_far = omega (arith, its_domain, is-n, (value_sums (lent ds [] [])).room (i + k) (length ds) (omega (arith, before_option, h.1)), bound)

-- ---- node v of a sound diagram, with as many values before its option as `before`, whose first edge is `edge`

module _ (d : Lent) (s : Sound d) where
  pub few_targets : length d.targets ≤ 131072
  few_targets = omega (arith, s.counted, edges_most d s.shaped (nodes d) (le_refl _))

  module _ {v edge : ℕ} (hv : v < nodes d) (is-edge : edge ≡ first_edge d v) where
    pub node_option : Within 1 (options d) (layer d v)
    node_option = layer_within d s.shaped v hv

    pub edges_end : edge + width d v ≤ length d.targets
    edges_end = omega (arith, is-edge, s.counted, (edge_sums d).room v (nodes d) hv)

    abbrev pub lent_targets : List ℕ
    lent_targets = take (edge + width d v - edge) (drop edge d.targets)

    module _ {counts : Diagram} (is-counts : counts ≡ counts_of d) {before : ℕ} (is-before : before ≡ first_value (lent d.domains [] []) (asked d v)) where
      abbrev pub lent_words : List ℤ
      lent_words = words (lent_node counts.values counts.nodes before edge lent_targets v)

      e_d : counts.values ≡ values d
      e_d = ap (λ (k : Diagram). k.values) is-counts

      en : counts.nodes ≡ nodes d
      en = ap (λ (k : Diagram). k.nodes) is-counts

      eb : before ≡ first_value d (asked d v)
      eb = is-before ∙ same_values _ [] [] _ _ _

      pub node_here : lent_words ≡ words (node_clauses d v)
      node_here = ap words (part_node d s e_d en v hv eb is-edge)

      module _ {at : ℕ} {orig : List ℤ} (room0 : at + length (words (up_to (nodes d) (node_clauses d))) ≤ length orig) {p : ℕ} {out : List ℤ} (wrote : Wrote orig at (up_to v (λ v. words (node_clauses d v))) out p) where
        pub node_fits : p + length lent_words ≤ length out
        node_fits = omega (arith, ap length node_here, room (λ v. words (node_clauses d v)) wrote (each_room (nodes d) (node_clauses d) at _ room0) hv)

        pub node_front : {l' : List ℤ} {r : ℕ} → EmitPromise (lent_numbers counts.values counts.nodes before edge lent_targets v) lent_words (mid_of p (length out - p) out) l' r → Wrote out p lent_words (put_mid p (length out - p) out l') (p + r)
        node_front = part_emitted node_fits (part_few d s e_d en v hv eb is-edge)

-- ---- a diagram said in another way

nodes_of : Lent → List ℤ
nodes_of d = words (up_to (nodes d) (node_clauses d))

module _ {d e : Lent} (p : d ≡ e) where
  pub nodes_room : (at n : ℕ) → at + length (words (up_to (nodes e) (node_clauses e))) ≤ n → at + length (words (up_to (nodes d) (node_clauses d))) ≤ n
  unfolding nodes_of
  nodes_room at n h = let P : Lent → Type 0 = λ f. at + length (nodes_of f) ≤ n in subst P (sym p) h

  pub nodes_wrote : (l l' : List ℤ) (at r : ℕ) → Wrote l at (words (up_to (nodes d) (node_clauses d))) l' r → Wrote l at (words (up_to (nodes e) (node_clauses e))) l' r
  unfolding nodes_of
  nodes_wrote l l' at r h = let P : Lent → Type 0 = λ f. Wrote l at (nodes_of f) l' r in subst P p h

-- ---- the whole list: the options, then T, not F and the root, then the nodes

module _ (d : Lent) (s : Sound d) {counts : Diagram} (is-counts : counts ≡ counts_of d) (out : List ℤ) (room0 : length (words (clauses edition1 d)) ≤ length out) where
  abbrev options_words : List ℤ
  options_words = words (up_to (options d) (option_clauses edition1 (lent d.domains [] [])))

  abbrev unit_words : List ℤ
  unit_words = words (units counts.values)

  abbrev nodes_words : List ℤ
  nodes_words = words (up_to (nodes d) (node_clauses d))

  counted : counts.values ≡ values d
  counted = ap (λ (k : Diagram). k.values) is-counts

  whole : options_words ++ (unit_words ++ nodes_words) ≡ words (clauses edition1 d)
  whole = list_words d.domains d.layers d.targets counted

  whole_fits : 0 + length (options_words ++ (unit_words ++ nodes_words)) ≤ length out
  whole_fits = omega (arith, ap length whole, room0)

  pub options_fit : 0 + length options_words ≤ length out
  options_fit = first_room options_words (unit_words ++ nodes_words) 0 _ whole_fits

  pub few_values : first_value (lent d.domains [] []) (options d) ≤ 2048
  few_values = omega (arith, same_values d.domains [] [] d.layers d.targets (options d), values_most d s.shaped (options d) (le_refl _))

  module _ {out₁ : List ℤ} {p : ℕ} (first : Wrote out 0 options_words out₁ p) where
    rest : p + length (unit_words ++ nodes_words) ≤ length out₁
    rest = then_room first (unit_words ++ nodes_words) whole_fits

    pub units_fit : p + length unit_words ≤ length out₁
    units_fit = first_room unit_words nodes_words _ _ rest

    module _ {l' : List ℤ} {r : ℕ} (promise : EmitPromise counts.values unit_words (mid_of p (length out₁ - p) out₁) l' r) where
      pub units_front : Wrote out₁ p unit_words (put_mid p (length out₁ - p) out₁ l') (p + r)
      units_front = part_emitted units_fit (omega (arith, counted, values_most d s.shaped (options d) (le_refl _))) promise

      pub nodes_fit : p + r + length nodes_words ≤ length (put_mid p (length out₁ - p) out₁ l')
      nodes_fit = then_room units_front nodes_words rest

      pub all_front : {out₂ : List ℤ} {q : ℕ} → Wrote (put_mid p (length out₁ - p) out₁ l') (p + r) nodes_words out₂ q → Front out (words (clauses edition1 d)) out₂ q
      all_front last = to_front room0 (wrote_as (then first (then units_front last)) whole)

-- the same of a diagram said in another way
module _ {d e : Lent} (p : d ≡ e) where
  pub clauses_room : (n : ℕ) → length (words (clauses edition1 e)) ≤ n → length (words (clauses edition1 d)) ≤ n
  clauses_room n h = let P : Lent → Type 0 = λ f. length (words (clauses edition1 f)) ≤ n in subst P (sym p) h

  pub clauses_front : (l l' : List ℤ) (r : ℕ) → Front l (words (clauses edition1 d)) l' r → Front l (words (clauses edition1 e)) l' r
  clauses_front l l' r h = let P : Lent → Type 0 = λ f. Front l (words (clauses edition1 f)) l' r in subst P p h
