-- `model_values::first_unread` meets its contract: an option has a value without a mark, or not exactly one true value, or its
-- value is written. Assumes nothing.
use Rattle.std.proofs.Common.{ℕ, ◌+◌, [], length, sym, ◌∙◌, ap, arith}
use Rattle.lists.proofs.UptoLaws.{list_singles}
use Rattle.lists.proofs.FirstLaws.{start, pass, stop}
use Rattle.lists.proofs.BufferLaws.{put, begin, turn, finish, written}
use Rattle.diagram.specs.Lent.{lent, domain}
use Rattle.diagram.proofs.NumberLaws.{value_sums}
use Rattle.naming.specs.Marks.{marked_true}
use Rattle.model.specs.Rules.{value_of}
use Rattle.model.proofs.MarkLaws.{unmarked_unread}
use Rattle.model_values.proofs.OneLaws.{refused, read}
use Rattle.model_values.proofs.first_unread.Goals as goal

pub loop-i-init : goal.loop-i-init
loop-i-init c = (sym (value_sums _).none, omega arith, start _, begin _)

pub returns-in_default-clause-value : goal.returns-in_default-clause-value
returns-in_default-clause-value c = stop _ _ _ c.loop-i.invariant.2 (unmarked_unread _ _ _ (omega (arith, c.in_default.ensures.lookup.0, c.loop-i.invariant.0))) c.loop-i-test.true

pub returns-in_default-clause-build_after : goal.returns-in_default-clause-build_after
returns-in_default-clause-build_after c = let n = list_singles c.loop-i.i (value_of (lent c.args.domains.now [] []) (marked_true c.args.marks.now)) in written (omega (arith, n, c.loop-i-test.true, c.requires)) c.loop-i.invariant.3

pub returns-in_default-one_value-clause-value : goal.returns-in_default-one_value-clause-value
returns-in_default-one_value-clause-value c = let h = c.in-Some.ensures.lookup.0 in stop _ _ _ c.loop-i.invariant.2 (refused _ _ _ c.loop-i.invariant.0 h.1 h.2 c.one_value.ensures c.in_default-one_value.is) c.loop-i-test.true

pub returns-in_default-one_value-clause-build_after : goal.returns-in_default-one_value-clause-build_after
returns-in_default-one_value-clause-build_after c = let n = list_singles c.loop-i.i (value_of (lent c.args.domains.now [] []) (marked_true c.args.marks.now)) in written (omega (arith, n, c.loop-i-test.true, c.requires)) c.loop-i.invariant.3

pub overflow_cast-build : goal.overflow_cast-build
overflow_cast-build c = let h = c.in-Some.ensures.lookup.0 in omega (arith, (read (lent c.args.domains.now [] []) _ _ c.loop-i.invariant.0 h.1 h.2 c.one_value.ensures c.in-Some-one_value.is).2, c.type_inv.domains c.loop-i.i)

pub loop-i-preserved : goal.loop-i-preserved
loop-i-preserved c =
    let k = c.loop-i in
    let d = lent c.args.domains.now [] [] in
    let h = c.in-Some.ensures.lookup.0 in
    let v = read d _ _ k.invariant.0 h.1 h.2 c.one_value.ensures c.in-Some-one_value.is in
    (ap (λ (b : ℕ). b + domain d k.i) k.invariant.0 ∙ sym ((value_sums d).more k.i), h.1, pass _ _ k.invariant.2 v.0, turn _ k.invariant.3 (rw v.1 (put _ _ _)))

pub returns-clause-build_after : goal.returns-clause-build_after
returns-clause-build_after c =
    let n = list_singles (length c.args.domains.now) (value_of (lent c.args.domains.now [] []) (marked_true c.args.marks.now)) in
    written (omega (arith, n, c.requires)) (finish _ c.loop-i.invariant.3 c.loop-i.auto.i-end c.loop-i-test.false)
