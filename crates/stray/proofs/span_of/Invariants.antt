-- `stray::span_of` meets its contract: the targets gone through keep to the span. Assumes nothing.
use Rattle.stray.specs.Stray.{Spans}
use Rattle.stray.proofs.span_of.Given as goal

abbrev pub invariant-loop-t : goal.invariant-loop-t
invariant-loop-t l = Spans l.ends l.part l.t-index l.least l.most
