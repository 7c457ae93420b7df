-- `name_reader::read_names` meets its contract: each number is looked for over the whole model before the next, and where both
-- pass the marks are what the model says. Assumes nothing.
use Rattle.std.proofs.Common.{◌≡◌, sym, ◌∙◌, ap, [], ◌∷◌, length, min, arith, Ok}
use Rattle.std.proofs.lemmas.Result.{err_from_is_err_and}
use Rattle.lists.specs.First.{first}
use Rattle.refusal.specs.Rules.{rule, chain}
use Rattle.refusal.proofs.RulesLaws.{not_due}
use Rattle.literals.proofs.LiteralLaws.{all_name}
use Rattle.naming.specs.Naming.{again}
use Rattle.naming.proofs.MarkLaws.{no_marks, marks_whole}
use Rattle.naming.proofs.ReadLaws.{refused_10, refused_11}
use Rattle.name_reader.proofs.read_names.Goals as goal

pub returns-in_err-verdict_of : goal.returns-in_err-verdict_of
returns-in_err-verdict_of c =
    let p = err_from_is_err_and c.from_residual.result c.from_residual.ensures.1 in
    let q = refused_10 (min 2147483647 c.args.last) (min 2048 c.args.values) c.args.literals.now (rw c.first_bad_literal.ensures at c.verdict_of.ensures) c.in_err-verdict_of.was in
    rw (p.1, p.2, q)

pub first_again-requires-clause-values_bound : goal.first_again-requires-clause-values_bound
first_again-requires-clause-values_bound c = (
  omega (arith, c.at_most-top.ensures),
  all_name (min 2147483647 c.args.last) c.args.literals.now (not_due 10 _ [] (sym (rw c.first_bad_literal.ensures at c.verdict_of.ensures) ∙ c.in_ok-verdict_of.was)).0,
)

pub first_again-requires-clause-marks : goal.first_again-requires-clause-marks
first_again-requires-clause-marks c = no_marks _ _ (omega (arith, c.at_most-top.ensures))

pub returns-in_err-verdict_of-2 : goal.returns-in_err-verdict_of-2
returns-in_err-verdict_of-2 c =
    let m = c.args.literals.now in
    let p = err_from_is_err_and c.from_residual-in_err-verdict_of-2.result c.from_residual-in_err-verdict_of-2.ensures.1 in
    let e : c.verdict_of-2.result ≡ chain (rule 11 (first (again (min 2048 c.args.values) m) (length m)) ∷ []) = rw (← c.at_most-top.ensures, ← c.first_again.ensures.value) c.verdict_of-2.ensures in
    let q = refused_11 (min 2147483647 c.args.last) (min 2048 c.args.values) m (rw c.first_bad_literal.ensures at c.verdict_of.ensures) c.in_ok-verdict_of.was e in
    rw (p.1, p.2, sym q ∙ c.in_err-verdict_of-2.was)

pub returns : goal.returns
returns c =
    let m = c.args.literals.now in
    let e : c.verdict_of-2.result ≡ chain (rule 11 (first (again (min 2048 c.args.values) m) (length m)) ∷ []) = rw (← c.at_most-top.ensures, ← c.first_again.ensures.value) c.verdict_of-2.ensures in
    let q = refused_11 (min 2147483647 c.args.last) (min 2048 c.args.values) m (rw c.first_bad_literal.ensures at c.verdict_of.ensures) c.in_ok-verdict_of.was e in
    let none = (not_due 11 _ [] (sym c.verdict_of-2.ensures ∙ c.in_ok-verdict_of-2.was)).0 in
    rw (sym q ∙ c.in_ok-verdict_of-2.was) (ap Ok (rw (← c.at_most-top.ensures) (marks_whole _ m (c.first_again.ensures.marks_2 none))))
