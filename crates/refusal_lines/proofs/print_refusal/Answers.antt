-- `refusal_lines::print_refusal` meets its contract: its lines, if they fit. Assumes nothing.
use mathlib.Core.Path.{sym, subst}
use mathlib.Core.List.{List}
use Prim.Native.Nat.{ℕ}
use Rattle.std.proofs.lemmas.List.{length-take-le}
use Rattle.decimal.specs.Bytes.{PutPromise}
use Rattle.desk.proofs.PrintLaws.{lines_most, taken, printed_short, printed_told}
use Rattle.refusal_lines.proofs.print_refusal.Goals as goal

pub put_refusal-n-requires : goal.put_refusal-n-requires
put_refusal-n-requires c = lines_most c.args.refusal

pub slice_bounds-lines-end : goal.slice_bounds-lines-end
slice_bounds-lines-end c = (taken (lines_most c.args.refusal) c.put_refusal-n.ensures).1

pub slice_bounds-put-end : goal.slice_bounds-put-end
slice_bounds-put-end c = sym (length-take-le _ _ (taken (lines_most c.args.refusal) c.put_refusal-n.ensures).1)

pub returns-then-out-bytes : goal.returns-then-out-bytes
returns-then-out-bytes c = printed_short _ _ (subst (λ (l : List ℕ). PutPromise l 0 c.args.out.now c.put-bytes.result c.put-bytes.new.out) (taken (lines_most c.args.refusal) c.put_refusal-n.ensures).0 c.put-bytes.ensures) c.if-out-bytes.true

pub returns : goal.returns
returns c = printed_told _ _ (subst (λ (l : List ℕ). PutPromise l 0 c.args.out.now c.put-bytes.result c.put-bytes.new.out) (taken (lines_most c.args.refusal) c.put_refusal-n.ensures).0 c.put-bytes.ensures) c.if-out-bytes.false
