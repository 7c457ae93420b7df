-- `layer_ends::layer_edges` meets its contract. Assumes nothing.
use Prim.Native.Nat.{◌-◌, ◌≤◌}
use native.Mathlib.Nat.{mul-le-mul}
use native.Mathlib.Omega.{arith}
use lib.ListN.{get_or}
use Rattle.layer_ends.proofs.EndLaws.{edges_too_many, edges_unasked, edges_asked, edges_beyond}
use Rattle.layer_ends.proofs.layer_edges.Goals as goal

pub returns-then-nodes : goal.returns-then-nodes
returns-then-nodes c = edges_too_many _ _ _ c.if-nodes.true

pub returns-then-layer-eq0 : goal.returns-then-layer-eq0
returns-then-layer-eq0 c = edges_unasked _ _ _ c.if-nodes.false c.if-layer-eq0.true

pub returns-then-domains-option : goal.returns-then-domains-option
returns-then-domains-option c = edges_beyond _ _ _ c.if-nodes.false (omega (arith, c.if-layer-eq0.false)) c.if-domains-option.true

pub overflow_cast-result : goal.overflow_cast-result
overflow_cast-result c = let s = c.before.before.before.before.before in omega (arith, c.type_inv.domains (s.args.layer - 1))

pub overflow_mul-result : goal.overflow_mul-result
overflow_mul-result c =
    let s = c.before.before.before.before.before in
    let x : get_or s.args.domains.now (s.args.layer - 1) 0 ≤ 4294967295 = omega (arith, c.type_inv.domains (s.args.layer - 1)) in
    omega (arith, mul-le-mul c.if-nodes.false x)

pub returns : goal.returns
returns c = let e = c.before.before.before in edges_asked _ _ _ e.if-nodes.false (omega (arith, e.if-layer-eq0.false))
