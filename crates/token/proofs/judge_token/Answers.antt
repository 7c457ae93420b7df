-- `token::judge_token` meets its contract: nothing stands there; or `0`; or another byte. Assumes nothing.
use mathlib.Core.Path.{sym, ◌∙◌, ap}
use mathlib.Core.Bool.{cond}
use Prim.Native.Nat.{ℕ, ◌+◌}
use native.Mathlib.Omega.{arith}
use lib.Dec.{eqb}
use Rattle.dimacs.proofs.NumberLaws.{as_number}
use Rattle.token.specs.Judged.{read_judged}
use Rattle.token.proofs.JudgeLaws.{end_judged, digits_judged}
use Rattle.token.proofs.judge_token.Goals as goal

pub returns-in-None : goal.returns-in-None
returns-in-None c = sym (end_judged c.args.text.now c.args.at c.args.variables (omega arith) c.in-None.ensures.lookup.3)

pub returns-in-Some : goal.returns-in-Some
returns-in-Some c =
    let s = c.args in
    let found = c.in-Some.ensures.lookup in
    let byte = found.4 (omega arith) 0 in
    c.judge_read.ensures ∙ ap (read_judged s.variables s.text.now s.at) c.read_positive.ensures
    ∙ sym (digits_judged s.text.now s.at s.variables (omega arith) found.3.0 (λ e. c.in-Some.first-test.1 (byte ∙ e)) _ (ap (λ (k : ℕ). s.at + k) (c.from.ensures ∙ as_number (eqb c.in-Some.first.now 45) ∙ ap (λ (b : ℕ). cond (eqb b 45) 1 0) byte)))
