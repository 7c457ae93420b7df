-- `edge_counts::check_counts` meets its contract: where the shape passes, the edges are counted. Assumes nothing.
use Rattle.std.proofs.Common.{sym, ◌∙◌}
use Rattle.edge_counts.proofs.CountLaws.{shape_passed}
use Rattle.edge_counts.proofs.check_counts.Goals as goal

pub edge_count-requires : goal.edge_count-requires
edge_count-requires c = shape_passed _ (sym c.check_shape.ensures ∙ c.in_ok-check_shape.was)
