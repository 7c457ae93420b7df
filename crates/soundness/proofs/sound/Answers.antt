-- `soundness::sound` meets its contract: where nothing is refused the counts fit, and are the diagram's. Assumes nothing.
use Rattle.std.proofs.Common.{sym, ◌∙◌, arith}
use Rattle.diagram.specs.Lent.{lent_by}
use Rattle.diagram.proofs.SoundLaws.{passed_sound}
use Rattle.soundness.proofs.SumLaws.{value_sum, few_values, few_targets}
use Rattle.soundness.proofs.sound.Goals as goal

pub overflow_cast-result : goal.overflow_cast-result
overflow_cast-result c = omega (arith, (passed_sound (lent_by c.args.lists) (sym c.check_all.ensures ∙ c.in_ok-check_all.was)).shaped.options_fit)

pub overflow_cast-result-2 : goal.overflow_cast-result-2
overflow_cast-result-2 c = omega (arith, (passed_sound (lent_by c.args.lists) (sym c.check_all.ensures ∙ c.in_ok-check_all.was)).shaped.nodes_fit)

pub value_count-requires : goal.value_count-requires
value_count-requires c = few_values (lent_by c.args.lists) (passed_sound (lent_by c.args.lists) (sym c.check_all.ensures ∙ c.in_ok-check_all.was))

pub overflow_cast-result-3 : goal.overflow_cast-result-3
overflow_cast-result-3 c = omega (arith, few_targets (lent_by c.args.lists) (passed_sound (lent_by c.args.lists) (sym c.check_all.ensures ∙ c.in_ok-check_all.was)))

pub invariant_of-result : goal.invariant_of-result
invariant_of-result c =
    let s = passed_sound (lent_by c.args.lists) (sym c.check_all.ensures ∙ c.in_ok-check_all.was) in
    (s, rw (c.value_count.ensures, value_sum (lent_by c.args.lists), s.counted))
