-- `encoder::emit_options` meets its contract: before each turn the options gone through stand there. Assumes nothing.
use Rattle.std.proofs.Common.{[], ◌≡◌, length, sym, arith}
use Rattle.lists.proofs.BufferLaws.{kept, begin, turn, wrote_as}
use Rattle.cnf.specs.Clause.{words}
use Rattle.diagram.specs.Lent.{lent}
use Rattle.diagram.proofs.NumberLaws.{value_sums}
use Rattle.clauses.specs.Clauses.{edition1, option_clauses}
use Rattle.encoding.proofs.ClauseLaws.{each_wrote}
use Rattle.encoder.proofs.EncodeLaws.{option_here, option_within, option_fits, option_front}
use Rattle.encoder.proofs.emit_options.Goals as goal

pub loop-k-init : goal.loop-k-init
loop-k-init c = (sym (value_sums _).none, begin _)

pub offset_bounds-out-p : goal.offset_bounds-out-p
offset_bounds-out-p c = omega (arith, option_fits c.args.domains.now c.requires.domains_bound c.requires.domains_in_bounds c.loop-k-test.true c.loop-k.invariant.0 c.loop-k.invariant.1, kept c.loop-k.invariant.1)

pub slice_bounds-emit_option-count : goal.slice_bounds-emit_option-count
slice_bounds-emit_option-count c = omega (arith, option_fits c.args.domains.now c.requires.domains_bound c.requires.domains_in_bounds c.loop-k-test.true c.loop-k.invariant.0 c.loop-k.invariant.1)

pub slice_bounds-emit_option-start : goal.slice_bounds-emit_option-start
slice_bounds-emit_option-start c = omega (arith, option_fits c.args.domains.now c.requires.domains_bound c.requires.domains_in_bounds c.loop-k-test.true c.loop-k.invariant.0 c.loop-k.invariant.1)

pub overflow_add-p : goal.overflow_add-p
overflow_add-p c = omega (arith, option_fits c.args.domains.now c.requires.domains_bound c.requires.domains_in_bounds c.loop-k-test.true c.loop-k.invariant.0 c.loop-k.invariant.1, kept c.loop-k.invariant.1, (option_front c.args.domains.now c.requires.domains_bound c.requires.domains_in_bounds c.loop-k-test.true c.loop-k.invariant.0 c.loop-k.invariant.1 c.emit_option-p.ensures).next)

pub overflow_add-before : goal.overflow_add-before
overflow_add-before c = omega (arith, option_within c.args.domains.now c.requires.domains_bound c.requires.domains_in_bounds c.loop-k-test.true c.loop-k.invariant.0 c.loop-k.invariant.1)

pub loop-k-preserved : goal.loop-k-preserved
loop-k-preserved c =
    let l = c.loop-k in
    let d = lent c.args.domains.now [] [] in
    (omega (arith, l.invariant.0, (value_sums d).more l.k-index), turn (λ i. words (option_clauses edition1 d i)) l.invariant.1 (wrote_as (option_front c.args.domains.now c.requires.domains_bound c.requires.domains_in_bounds c.loop-k-test.true c.loop-k.invariant.0 c.loop-k.invariant.1 c.emit_option-p.ensures) (option_here c.args.domains.now c.requires.domains_bound c.requires.domains_in_bounds c.loop-k-test.true c.loop-k.invariant.0 c.loop-k.invariant.1)))

pub returns : goal.returns
returns c =
    let l = c.loop-k in
    let q : l.k-index ≡ length c.args.domains.now = omega (arith, c.loop-k-test.false, l.auto.k-index-end) in
    each_wrote _ _ (rw q at l.invariant.1)
