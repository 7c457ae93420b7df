-- `name_reader::search_again` meets its contract. Assumes nothing.
use Rattle.std.proofs.Common.{rules, ◌≡◌, sym, ◌∙◌, arith, ◌+◌}
use mir.Syntax.{w32}
use mir.ValLaws.{to_z-of_z}
use Rattle.lists.proofs.FirstLaws.{pass, stop}
use Rattle.name_reader.proofs.TurnLaws.{part_below, part_at, finds, leaves}
use Rattle.name_reader.proofs.search_again.Goals as goal

pub returns-then-note-clause-value : goal.returns-then-note-clause-value
returns-then-note-clause-value c =
    let a = c.args in
    let r = c.requires.values_bound in
    let k = c.loop-k.k in
    let l = part_below a.literals.now a.from a.end k r.2 r.3 c.loop-k-test.true in
    let is = to_z-of_z w32 _ (search rules) ∙ part_at a.literals.now a.from a.end k r.2 r.3 c.loop-k-test.true in
    let f = finds c.loop-k.invariant.1 r.0 (r.1 (a.from + k) (omega arith)) is c.variable_of.ensures c.mark_of.ensures c.note.ensures.value in
    stop _ _ _ c.loop-k.invariant.0 (sym f ∙ c.if-note.true) l

pub loop-k-preserved : goal.loop-k-preserved
loop-k-preserved c =
    let a = c.args in
    let r = c.requires.values_bound in
    let k = c.loop-k.k in
    let l = part_below a.literals.now a.from a.end k r.2 r.3 c.loop-k-test.true in
    let s = r.1 (a.from + k) (omega arith) in
    let is = to_z-of_z w32 _ (search rules) ∙ part_at a.literals.now a.from a.end k r.2 r.3 c.loop-k-test.true in
    let f = finds c.loop-k.invariant.1 r.0 s is c.variable_of.ensures c.mark_of.ensures c.note.ensures.value in
    let e : a.from + (k + 1) ≡ a.from + k + 1 = omega arith in
    rw e (pass _ _ c.loop-k.invariant.0 (sym f ∙ c.if-note.false), leaves c.loop-k.invariant.1 r.0 s is c.variable_of.ensures c.mark_of.ensures c.note.ensures.value c.if-note.false c.note.ensures.marks_after)
