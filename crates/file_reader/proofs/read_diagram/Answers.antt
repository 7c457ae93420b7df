-- `file_reader::read_diagram` meets its contract: the file is refused, or its three parts are filled in one after the other.
-- Assumes nothing.
use mathlib.Core.Path.{sym, ◌∙◌}
use Rattle.diagram.specs.Lent.{lent}
use Rattle.file_reader.proofs.FillLaws.{options_room, options_filled, nodes_room, nodes_filled, edges_room, edges_filled, file_refused, file_read}
use Rattle.file_reader.proofs.read_diagram.Goals as goal

pub returns-in-Err : goal.returns-in-Err
returns-in-Err c = file_refused c.args.text.now (lent c.args.domains.now c.args.layers.now c.args.targets.now) (sym c.judge_file.ensures ∙ c.in-Err.is)

pub fill_part-options-requires : goal.fill_part-options-requires
fill_part-options-requires c = options_room c.args.text.now (lent c.args.domains.now c.args.layers.now c.args.targets.now) (sym c.judge_file.ensures ∙ c.in_default.is)

pub fill_part-nodes-requires : goal.fill_part-nodes-requires
fill_part-nodes-requires c = nodes_room c.args.text.now (lent c.args.domains.now c.args.layers.now c.args.targets.now) (sym c.judge_file.ensures ∙ c.in_default.is) (options_filled c.args.text.now (lent c.args.domains.now c.args.layers.now c.args.targets.now) (sym c.judge_file.ensures ∙ c.in_default.is) c.fill_part-options.ensures)

pub fill_part-edges-requires : goal.fill_part-edges-requires
fill_part-edges-requires c = edges_room c.args.text.now (lent c.args.domains.now c.args.layers.now c.args.targets.now) (sym c.judge_file.ensures ∙ c.in_default.is) (nodes_filled c.args.text.now (lent c.args.domains.now c.args.layers.now c.args.targets.now) (sym c.judge_file.ensures ∙ c.in_default.is) (options_filled c.args.text.now (lent c.args.domains.now c.args.layers.now c.args.targets.now) (sym c.judge_file.ensures ∙ c.in_default.is) c.fill_part-options.ensures) c.fill_part-nodes.ensures)

pub returns : goal.returns
returns c =
    let o = options_filled c.args.text.now (lent c.args.domains.now c.args.layers.now c.args.targets.now) (sym c.judge_file.ensures ∙ c.in_default.is) c.fill_part-options.ensures in
    let n = nodes_filled c.args.text.now (lent c.args.domains.now c.args.layers.now c.args.targets.now) (sym c.judge_file.ensures ∙ c.in_default.is) o c.fill_part-nodes.ensures in
    let t = edges_filled c.args.text.now (lent c.args.domains.now c.args.layers.now c.args.targets.now) (sym c.judge_file.ensures ∙ c.in_default.is) n c.fill_part-edges.ensures in
    file_read c.args.text.now (lent c.args.domains.now c.args.layers.now c.args.targets.now) (sym c.judge_file.ensures ∙ c.in_default.is) _ _ _ o.counts n.counts t.counts _ _ _ o.list n.list t.list
