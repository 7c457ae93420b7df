-- `model_reader::read_model` meets its contract: the answer says what is given back. Assumes nothing.
use Rattle.diagram.specs.Lent.{lent_by}
use Rattle.clauses.specs.Clauses.{edition1}
use Rattle.model.proofs.ReadLaws.{read_answered}
use Rattle.model_reader.proofs.read_model.Goals as goal

pub returns-in-Ok : goal.returns-in-Ok
returns-in-Ok c = rw c.in-Ok.is at (read_answered edition1 (lent_by c.args.lists) c.args.literals.now c.args.out.now _ c.read_build.ensures.value c.read_build.ensures.out_after)

pub returns-in-Err : goal.returns-in-Err
returns-in-Err c = rw c.in-Err.is at (read_answered edition1 (lent_by c.args.lists) c.args.literals.now c.args.out.now _ c.read_build.ensures.value c.read_build.ensures.out_after)
