-- What number 4 reads: the layers' rule two layers at a time, and the number of options no further than a layer can be. Assumes
-- nothing.
use mathlib.Core.Path.{◌≡◌, ap, ◌∙◌}
use mathlib.Core.Bool.{Bool}
use mathlib.Core.Logic.{⊎_elim}
use Prim.Native.Nat.{ℕ, ◌+◌, ◌-◌, ◌≤◌, ◌<◌, min}
use native.Mathlib.Omega.{arith}
use borrow.Author.Tests.{ne_eqb, le-ltb, lt-ltb}
use Rattle.lists.proofs.UptoLaws.{below_or_not}
use Rattle.diagram.specs.Lent.{Lent, options, layer}
use Rattle.diagram.specs.Rules.{breaks_rule, bad_layer}

-- a node after the root, by its own layer and the one before it
pub after_root : (d : Lent) (j : ℕ) → bad_layer d (1 + j) ≡ breaks_rule (options d) (layer d j) (layer d (j + 1))
unfolding bad_layer
after_root d j =
    let e : 1 + j ≡ j + 1 = omega arith in
    let f : j + 1 - 1 ≡ j = omega arith in
    rw (e, ne_eqb (j + 1) 0 (λ z. omega arith), f)

-- the number of options may be cut at the largest layer
breaks_cut : (n before i : ℕ) → i ≤ 4294967295 → breaks_rule (min 4294967295 n) before i ≡ breaks_rule n before i
breaks_cut n before i h = ⊎_elim above within (below_or_not n i)
  where
    above : n < i → breaks_rule (min 4294967295 n) before i ≡ breaks_rule n before i
    above l = rw (lt-ltb (min 4294967295 n) i (omega arith), lt-ltb n i l)

    within : i ≤ n → breaks_rule (min 4294967295 n) before i ≡ breaks_rule n before i
    within l = rw (le-ltb (min 4294967295 n) i (omega arith), le-ltb n i l)

pub breaks_by : (n before i : ℕ) {m : ℕ} {r : Bool} → m ≡ min 4294967295 n → i ≤ 4294967295 → r ≡ breaks_rule m before i → r ≡ breaks_rule n before i
breaks_by n before i e h q = q ∙ ap (λ (m : ℕ). breaks_rule m before i) e ∙ breaks_cut n before i h
