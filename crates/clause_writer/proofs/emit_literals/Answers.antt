-- `clause_writer::emit_literals` meets its contract: nothing, or, before turn j, the first j literals. Assumes nothing.
use mathlib.Core.List.{List, [], ◌∷◌}
use Prim.Native.Nat.{◌+◌, ℕ}
use native.Mathlib.Omega.{arith}
use lib.IntN.{ℤ}
use lib.ListN.{length, take, set}
use Rattle.std.proofs.lemmas.List.{length-take-le}
use Rattle.lists.specs.Buffer.{Wrote}
use Rattle.clauses.specs.Clauses.{one_of}
use mathlib.Core.Path.{◌≡◌, refl, ap, ◌∙◌}
use Rattle.lists.proofs.BufferLaws.{begin, turn, finish, written, over_all}
use Rattle.lists.proofs.SignedLaws.{as_word}
use Rattle.cnf.specs.Clause.{plain}
use Rattle.encoding.proofs.ClauseLaws.{run_length, too_many, too_short, emits_part}
use Rattle.clause_writer.proofs.emit_literals.Goals as goal

-- the literal of turn j
abbrev literal : ℕ → ℕ → List ℤ
literal first j = plain (first + j) ∷ []

pub returns-then-from : goal.returns-then-from
returns-then-from c = too_many _ _ _ (omega arith)

pub returns-then-out-k : goal.returns-then-out-k
returns-then-out-k c = let a = c.args in too_short _ _ _ (omega (arith, run_length (λ j. a.first + j) a.k))

pub loop-j-init : goal.loop-j-init
loop-j-init c = begin (literal c.args.first)

pub loop-j-preserved : goal.loop-j-preserved
loop-j-preserved c =
    let l = c.loop-j in
    let a = c.args in
    let e : length (take a.k a.out.now) ≡ a.k = length-take-le a.k a.out.now (omega arith) in
    turn (literal a.first) l.invariant (record { list = ap (set l.word-items l.j) (as_word (a.first + l.j) (omega arith)); next = refl })

pub returns : goal.returns
returns c =
    let l = c.loop-j in
    let a = c.args in
    let n = run_length (λ j. a.first + j) a.k in
    let e : length (take a.k a.out.now) ≡ a.k = length-take-le a.k a.out.now (omega arith) in
    let w : Wrote (take a.k a.out.now) 0 (one_of (λ j. a.first + j) a.k) l.word-items l.j = finish (literal a.first) l.invariant (omega arith) (omega arith) in
    emits_part _ _ _ (omega arith) (omega arith) (written (omega arith) w ∙ over_all _ _ (omega arith)) (omega arith)
