-- `encoder::encode` meets its contract: the diagram is refused, or has passed and is encoded. Assumes nothing.
use Rattle.std.proofs.Common.{sym, ◌∙◌}
use Rattle.cnf.proofs.EncodedLaws.{encode_refuses, encode_goes_on}
use Rattle.diagram.specs.Lent.{lent_by}
use Rattle.diagram.specs.Rules.{check_rules}
use Rattle.refusal.proofs.SaidLaws.{refused_given, passed_given}
use Rattle.encoding.specs.Promise.{encode_rules}
use Rattle.encoder.proofs.encode.Goals as goal

pub returns-in-Err : goal.returns-in-Err
unfolding encode_rules
returns-in-Err c = encode_refuses _ _ _ (check_rules (lent_by c.args.lists)) _ _ (refused_given _ _ (sym c.in-Err.is ∙ c.sound.ensures))

pub returns-in-Ok : goal.returns-in-Ok
unfolding encode_rules
returns-in-Ok c = let f = passed_given _ _ (sym c.in-Ok.is ∙ c.sound.ensures) in encode_goes_on _ _ _ (check_rules (lent_by c.args.lists)) _ _ _ f.0 (rw f.1 at c.encode_sound.ensures)
