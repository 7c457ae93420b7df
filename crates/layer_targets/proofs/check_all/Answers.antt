-- `layer_targets::check_all` meets its contract: where the counts pass, the targets are looked at. Assumes nothing.
use Rattle.std.proofs.Common.{sym, ◌∙◌}
use Rattle.edge_counts.proofs.CountLaws.{counts_passed}
use Rattle.layer_targets.proofs.check_all.Goals as goal

pub first_bad_target-requires : goal.first_bad_target-requires
first_bad_target-requires c = let e = counts_passed _ (sym c.check_counts.ensures ∙ c.in_ok-check_counts.was) in record { shaped = e.0; targets_len = e.1 }
