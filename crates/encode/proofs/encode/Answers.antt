-- What is written is what is to be printed for what was read, and that is what is to be printed for the input.
use Rattle.std.proofs.Common.{rules, arith}
use Rattle.encode.proofs.ProgramLaws.{written_on_ok}
use Rattle.encode.proofs.encode.Goals as goal

pub returns : goal.returns
returns g c =
    let read = c.in_ok-n.ensures in
    written_on_ok c.tell.result 32769 (omega arith) (g.R.Read.remaining c.args.from.now) (g.R.Read.remaining c.read_full.new.from) c.read_full.new.buf c.in_ok-n.n (search rules) read.in_bounds.0 read.bytes read.end
    _ c.run-answer.result c.run-answer.new.out (search rules) (search rules) c.run-answer.ensures (g.W.Write.contents c.args.w.now) (g.W.Write.contents c.tell.new.w) c.tell.ensures
