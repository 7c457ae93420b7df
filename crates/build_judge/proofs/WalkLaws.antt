-- A turn of the two loops that judge a build: the edges of the nodes of a stretch, and a step of the walk. Assumes nothing.
use Rattle.std.specs.Prelude.{◌≡◌, List, [], ℕ, suc, ◌+◌, ◌-◌, ◌≤◌, ◌<◌, length, get_or, take, drop}
use Rattle.std.proofs.Common.{sym, ◌∙◌, ap, arith}
use native.Mathlib.Nat.{le_refl}
use lib.ListN.{length-drop}
use lib.Seq.{get_or-take, get_or-drop, length-take-le}
use lib.Dec.{eqb}
use Rattle.diagram.specs.Lent.{Lent, lent, nodes, layer, asked, width, first_edge, leads, target, chosen, end}
use Rattle.diagram.specs.Sound.{Within, Shaped, Sound}
use Rattle.diagram.proofs.ShapedLaws.{layer_within, edge_sums, edges_most}
use Rattle.diagram.proofs.AllowsLaws.{Ranked, sound_ranked, later_node, later_is, end_of_end, next_later, end_step}
use Rattle.judge.specs.Build.{Fits}
use Rattle.judge.specs.Promise.{allows_test}

-- ---- the nodes from v to before w, of which k are passed

module _ (ds ls : List ℕ) (shaped : Shaped (lent ds ls [])) {v w k e : ℕ} (h : (v ≤ w) × (w ≤ length ls)) (lk : k < length (take (w - v) (drop v ls))) (is_e : e ≡ first_edge (lent ds ls []) (v + k)) where
  before_w : v + k < w
  before_w = omega (arith, lk, h.0, h.1, length-take-le (w - v) (drop v ls) (omega (arith, h.0, h.1, length-drop v ls)))

  node : get_or (take (w - v) (drop v ls)) k 0 ≡ get_or ls (v + k) 0
  node = get_or-take (w - v) (drop v ls) k 0 (omega (arith, before_w)) ∙ get_or-drop v ls k 0

  pub its_option : Within 1 (length ds) (get_or (take (w - v) (drop v ls)) k 0)
  its_option = rw node (layer_within (lent ds ls []) shaped (v + k) (omega (arith, before_w, h.1)))

  pub its_edges : e + get_or ds (get_or (take (w - v) (drop v ls)) k 0 - 1) 0 ≡ first_edge (lent ds ls []) (v + k + 1)
  its_edges = rw node (ap (λ (n : ℕ). n + width (lent ds ls []) (v + k)) is_e ∙ sym ((edge_sums (lent ds ls [])).more (v + k)))

  pub few_edges : e + get_or ds (get_or (take (w - v) (drop v ls)) k 0 - 1) 0 ≤ 131072
  few_edges = omega (arith, its_edges, edges_most (lent ds ls []) shaped (v + k + 1) (omega (arith, before_w, h.1)))

-- ---- the walk at node v, whose first edge is a

module _ (d : Lent) (sound : Sound d) (build : List ℕ) (fits : Fits d build) {v a : ℕ} (hv : v < nodes d) (is-a : a ≡ first_edge d v) where
  abbrev x : ℕ → ℕ
  x = chosen build

  ok : Ranked d
  ok = sound_ranked d sound

  -- the node's option, its value, and the edge of that value
  pub option : Within 1 (length d.domains) (layer d v)
  option = layer_within d sound.shaped v hv

  value : x (asked d v) < width d v
  value = fits.in_domain (asked d v) (omega (arith, option))

  pub edge : a + x (asked d v) < length d.targets
  edge = omega (arith, value, is-a, (edge_sums d).room v (nodes d) hv, sound.counted)

  pub small : a + x (asked d v) < 131072
  small = omega (arith, edge, sound.counted, edges_most d sound.shaped (nodes d) (le_refl _))

  -- the reference that is read
  abbrev next : ℕ
  next = leads d (a + x (asked d v))

  is_next : next ≡ target d v (x (asked d v))
  is_next = ap (λ (a : ℕ). leads d (a + x (asked d v))) is-a

  pub same_end : end d x (suc (suc v)) ≡ end d x 2 → end d x next ≡ end d x 2
  same_end e = ap (end d x) is_next ∙ sym (end_step d ok x fits.in_domain v hv) ∙ e

  pub at_end : end d x (suc (suc v)) ≡ end d x 2 → next < 2 → eqb next 1 ≡ allows_test d build
  at_end e h = ap (λ (r : ℕ). eqb r 1) (sym (end_of_end d x next h) ∙ same_end e)

  pub is_node : 2 ≤ next → (next - 2 < nodes d) × (layer d v < layer d (next - 2)) × (suc (suc (next - 2)) ≡ next)
  is_node h = later_is d (layer d v) next (rw is_next (next_later d ok x fits.in_domain v hv)) h

  pub goes_on : 2 ≤ next → v < next - 2
  goes_on h = later_node d sound.shaped v (next - 2) hv (is_node h).1
