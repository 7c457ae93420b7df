-- The diagram as it is lent, and which builds it allows. Options, nodes, edges and values count from 0 here; a layer is
-- the number of its option counted from 1, and the references are 0 for F, 1 for T and v + 2 for node v. Assumes nothing.
use Rattle.std.specs.Prelude.{◌≡◌, List, ℕ, zero, suc, ◌+◌, ◌-◌, ◌<◌, length, get_or}
use Rattle.lists.specs.Upto.{sum_to}
use Rattle.diagram.specs.declared.Lists.{Lists}

pub record Lent : Type 0 where
  pub domains : List ℕ
  pub layers : List ℕ
  pub targets : List ℕ

abbrev pub lent : List ℕ → List ℕ → List ℕ → Lent
lent ds ls ts = record { domains = ds; layers = ls; targets = ts }

-- the diagram that three lists are
abbrev pub lent_by : Lists → Lent
lent_by l = lent l.domains.now l.layers.now l.targets.now

-- the value that a build, as a list, chooses for option i
abbrev pub chosen : List ℕ → ℕ → ℕ
chosen build i = get_or build i 0

module _ (d : Lent) where
  abbrev pub options : ℕ
  options = length d.domains

  abbrev pub nodes : ℕ
  nodes = length d.layers

  -- how many values option i has
  abbrev pub domain : ℕ → ℕ
  domain i = get_or d.domains i 0

  abbrev pub layer : ℕ → ℕ
  layer v = get_or d.layers v 0

  -- the option that node v asks about
  abbrev pub asked : ℕ → ℕ
  asked v = layer v - 1

  -- how many edges node v has: one for each value of its option
  abbrev pub width : ℕ → ℕ
  width v = domain (asked v)

  -- the number of node v's first edge: the edges of the nodes before it
  unfoldable pub first_edge : ℕ → ℕ
  first_edge v = sum_to v width

  -- E
  abbrev pub edges : ℕ
  edges = first_edge nodes

  -- the reference that edge e leads to, and the one that the edge of value j of node v leads to
  abbrev pub leads : ℕ → ℕ
  leads e = get_or d.targets e 0

  abbrev pub target : ℕ → ℕ → ℕ
  target v j = leads (first_edge v + j)

  -- each option's value lies in its domain
  abbrev pub Build : (ℕ → ℕ) → Type 0
  Build x = (i : ℕ) → i < options → x i < domain i

  -- a step of a build's walk: the ends stay, and a node goes along the edge of its option's value
  unfoldable pub step : (ℕ → ℕ) → ℕ → ℕ
  step x zero = 0
  step x (suc zero) = 1
  step x (suc (suc v)) = target v (x (asked v))

  unfoldable pub walk : (ℕ → ℕ) → ℕ → ℕ → ℕ
  walk x zero r = r
  walk x (suc k) r = walk x k (step x r)

  -- where a build's walk from a reference ends: no walk of a sound diagram takes more steps than there are options
  abbrev pub end : (ℕ → ℕ) → ℕ → ℕ
  end x r = walk x options r

  -- the diagram allows the build: the walk from its root, node 0, ends at T
  abbrev pub Allows : (ℕ → ℕ) → Type 0
  Allows x = end x 2 ≡ 1

  -- the same, said by cases: T allows whatever is left; a node allows values for the rest of the options when the edge
  -- of its option's value leads to T, or to a node that allows them
  pub data AllowsFrom (x : ℕ → ℕ) : ℕ → Type 0 where
    at_true : AllowsFrom x 1
    along : {v : ℕ} → v < nodes → x (asked v) < width v → AllowsFrom x (target v (x (asked v))) → AllowsFrom x (suc (suc v))

  -- the diagram allows a build when its root does
  abbrev pub RootAllows : (ℕ → ℕ) → Type 0
  RootAllows x = AllowsFrom x 2
