-- `encoder::values_before` meets its contract: n values stand before the option that is next. Assumes nothing.
use Rattle.std.proofs.Common.{[], ◌≡◌, ◌+◌, ap, ◌∙◌, arith}
use Rattle.diagram.specs.Lent.{lent}
use Rattle.diagram.specs.Numbers.{first_value}
use Rattle.encoder.proofs.EncodeLaws.{its_values, few_so_far}
use Rattle.encoder.proofs.values_before.Goals as goal

pub overflow_add-n : goal.overflow_add-n
overflow_add-n c = omega (arith, few_so_far c.args.domains.now c.requires.domains_bound c.requires.i_le_option c.loop-k-test.true c.loop-k.invariant)

pub loop-k-preserved : goal.loop-k-preserved
loop-k-preserved c =
    let q : c.args.i + c.loop-k.k-index + 1 ≡ c.args.i + (c.loop-k.k-index + 1) = omega arith in
    its_values c.args.domains.now c.requires.domains_bound c.requires.i_le_option c.loop-k-test.true c.loop-k.invariant ∙ ap (first_value (lent c.args.domains.now [] [])) q
