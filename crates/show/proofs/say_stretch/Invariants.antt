-- What has been written so far is the entries before the one that is next.
use Rattle.std.proofs.Common.{take}
use Rattle.std.specs.List.{flat_map}
use Rattle.std.specs.Io.KnownBytes.{Appends}
use Rattle.show.proofs.say_stretch.Given as goal

abbrev pub invariant-loop-entry : goal.invariant-loop-entry
invariant-loop-entry g l = Appends (g.W.Write.contents l.initial.w) (g.W.Write.contents l.w) (flat_map g.T.Entry.bytes (take l.entry-index l.entry-items))
