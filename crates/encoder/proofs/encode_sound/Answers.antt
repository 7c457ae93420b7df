-- `encoder::encode_sound` meets its contract: number 7, or the words. Assumes nothing.
use Rattle.std.proofs.Common.{ap, ◌∙◌, arith}
use Rattle.cnf.specs.Encoded.{tally_of}
use Rattle.cnf.specs.declared.Tally.{Tally}
use Rattle.cnf.proofs.EncodedLaws.{encode_short, encode_writes}
use Rattle.diagram.specs.Lent.{Lent, lent_by}
use Rattle.diagram.specs.declared.Diagram.{Diagram}
use Rattle.clauses.specs.Clauses.{edition1, clauses, last_variable}
use Rattle.sizes.specs.Tallied.{tallied}
use Rattle.sizes.proofs.TallyLaws.{own_tally}
use Rattle.encoder.proofs.encode_sound.Goals as goal

pub returns-then-out-tally : goal.returns-then-out-tally
returns-then-out-tally c =
    let d = c.args.diagram.now in
    let own = c.tally_of-tally.ensures ∙ ap (λ (k : Diagram). tallied k c.diagram.inside.lists.domains.now) c.diagram.invariant.1 ∙ own_tally (lent_by c.diagram.inside.lists) c.diagram.invariant.0.shaped ∙ ap (λ (e : Lent). tally_of (clauses edition1 e) (last_variable edition1 e)) c.diagram.view_is in
    encode_short (clauses edition1 d) (last_variable edition1 d) _ (ap (λ (t : Tally). t.words) own) c.if-out-tally.true

pub emit_all-requires : goal.emit_all-requires
emit_all-requires c =
    let own = c.tally_of-tally.ensures ∙ ap (λ (k : Diagram). tallied k c.diagram.inside.lists.domains.now) c.diagram.invariant.1 ∙ own_tally (lent_by c.diagram.inside.lists) c.diagram.invariant.0.shaped ∙ ap (λ (e : Lent). tally_of (clauses edition1 e) (last_variable edition1 e)) c.diagram.view_is in
    omega (arith, ap (λ (t : Tally). t.words) own, c.if-out-tally.false)

pub returns : goal.returns
returns c =
    let d = c.args.diagram.now in
    let own = c.tally_of-tally.ensures ∙ ap (λ (k : Diagram). tallied k c.diagram.inside.lists.domains.now) c.diagram.invariant.1 ∙ own_tally (lent_by c.diagram.inside.lists) c.diagram.invariant.0.shaped ∙ ap (λ (e : Lent). tally_of (clauses edition1 e) (last_variable edition1 e)) c.diagram.view_is in
    encode_writes (clauses edition1 d) (last_variable edition1 d) _ own (omega (arith, ap (λ (t : Tally). t.words) own, c.if-out-tally.false)) c.emit_all.ensures.list
