-- `model_reader::read_build` meets its contract: the diagram is refused, or has passed and the model is read. Assumes nothing.
use Rattle.std.proofs.Common.{length, sym, ◌∙◌}
use Rattle.std.proofs.lemmas.Result.{err_from_is_err_and}
use Rattle.diagram.specs.Lent.{lent_by}
use Rattle.refusal.proofs.SaidLaws.{refused_given, passed_given}
use Rattle.clauses.specs.Clauses.{edition1}
use Rattle.model.proofs.ReadLaws.{check_refuses, check_passes}
use Rattle.model_reader.proofs.read_build.Goals as goal

pub returns-in_err-diagram : goal.returns-in_err-diagram
returns-in_err-diagram c =
    let p = err_from_is_err_and c.from_residual.result c.from_residual.ensures.1 in
    let q = check_refuses edition1 (lent_by c.args.lists) c.args.literals.now (length c.args.out.now) (refused_given _ _ (sym c.in_err-diagram.was ∙ c.sound.ensures)) in
    record { value = rw (p.1, p.2, q); out_after = rw q }

pub returns : goal.returns
returns c =
    let f = passed_given _ _ (sym c.in_ok-diagram.was ∙ c.sound.ensures) in
    let q = check_passes edition1 (lent_by c.args.lists) c.args.literals.now (length c.args.out.now) f.0 in
    record { value = rw q (rw f.1 at c.read_sound.ensures.value); out_after = rw q (rw f.1 at c.read_sound.ensures.out_after) }
