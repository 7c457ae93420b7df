-- A turn writes one entry more.
use Rattle.std.proofs.Common.{◌≡◌, ◌+◌, ◌++◌, take, arith, sym, subst}
use Rattle.std.specs.List.{flat_map}
use Rattle.std.specs.Io.KnownBytes.{Appends}
use Rattle.std.proofs.KnownBytes.{Appends-trans}
use Rattle.std.proofs.lemmas.Grind.{common_steps}
use Rattle.std.proofs.lemmas.List.{take_more}
use Rattle.show.proofs.say_stretch.Goals as goal

pub loop-entry-preserved : goal.loop-entry-preserved
loop-entry-preserved g c =
    let items = c.stretch-entry-items.result.now in
    let i = c.loop-entry.entry-index in
    let bytes = g.T.Entry.bytes in
    let joined : flat_map bytes (take (i + 1) items) ≡ flat_map bytes (take i items) ++ bytes c.entry-item.result = grind (arith, common_steps, take_more) in
    subst (Appends _ _) (sym joined) (Appends-trans _ _ _ _ _ c.loop-entry.invariant c.in_ok-say.ensures)
