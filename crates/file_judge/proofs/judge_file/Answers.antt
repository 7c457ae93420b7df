-- `file_judge::judge_file` meets its contract: its three parts one after the other, and the end. Assumes nothing.
use Rattle.std.proofs.Common.{refl}
use Rattle.std.proofs.lemmas.Result.{err_from_is_err_and}
use Rattle.diagram_file.specs.Lines.{one_line}
use Rattle.file_judge.proofs.PartLaws.{start_stands}
use Rattle.file_judge.proofs.FileLaws.{options_refuse, options_pass, nodes_refuse, nodes_pass, edges_refuse, edges_pass, end_decides}
use Rattle.file_judge.proofs.judge_file.Goals as goal

pub judge_part-requires : goal.judge_part-requires
unfolding one_line
judge_part-requires c = (start_stands _, refl, refl)

pub returns-in_err-nodes : goal.returns-in_err-nodes
returns-in_err-nodes c = let p = err_from_is_err_and c.from_residual.result c.from_residual.ensures.1 in rw (p.1, p.2) (options_refuse c.args.text.now c.args.most _ c.judge_part.ensures c.in_err-nodes.was)

pub judge_part-requires-2 : goal.judge_part-requires-2
unfolding one_line
judge_part-requires-2 c = ((options_pass c.args.text.now c.args.most _ c.judge_part.ensures c.in_ok-nodes.was).1, refl, refl)

pub returns-in_err-edges : goal.returns-in_err-edges
returns-in_err-edges c =
    let p = err_from_is_err_and c.from_residual-in_err-edges.result c.from_residual-in_err-edges.ensures.1 in
    rw (p.1, p.2) (nodes_refuse c.args.text.now c.args.most _ c.judge_part.ensures c.in_ok-nodes.was _ c.judge_part-2.ensures c.in_err-edges.was)

pub judge_part-requires-3 : goal.judge_part-requires-3
unfolding one_line
judge_part-requires-3 c = ((nodes_pass c.args.text.now c.args.most _ c.judge_part.ensures c.in_ok-nodes.was _ c.judge_part-2.ensures c.in_ok-edges.was).1, refl, refl)

pub returns-in_err-end : goal.returns-in_err-end
returns-in_err-end c =
    let p = err_from_is_err_and c.from_residual-in_err-end.result c.from_residual-in_err-end.ensures.1 in
    rw (p.1, p.2) (edges_refuse c.args.text.now c.args.most _ c.judge_part.ensures c.in_ok-nodes.was _ c.judge_part-2.ensures c.in_ok-edges.was _ c.judge_part-3.ensures c.in_err-end.was)

pub judge_end-requires : goal.judge_end-requires
judge_end-requires c = (edges_pass c.args.text.now c.args.most _ c.judge_part.ensures c.in_ok-nodes.was _ c.judge_part-2.ensures c.in_ok-edges.was _ c.judge_part-3.ensures c.in_ok-end.was).1

pub returns : goal.returns
returns c = end_decides c.args.text.now c.args.most _ c.judge_part.ensures c.in_ok-nodes.was _ c.judge_part-2.ensures c.in_ok-edges.was _ c.judge_part-3.ensures c.in_ok-end.was c.judge_end.ensures
