-- `keys::has` meets its contract. Assumes nothing.
use mathlib.Core.Path.{refl, ap, ◌∙◌}
use mathlib.Core.List.{List}
use Prim.Native.Nat.{ℕ}
use lib.Dec.{eqb}
use denote.Ref.{Bor}
use Rattle.std.specs.List.{starts_with}
use Rattle.keys.proofs.HasLaws.{has_same}
use Rattle.keys.proofs.has.Goals as goal

pub returns : goal.returns
returns c = c.starts_with.ensures.value ∙ ap (λ (r : Bor (List ℕ)). starts_with eqb r.now c.args.key.now) c.unwrap_or.ensures ∙ has_same _ _ _ _ _ refl c.get.ensures.lookup
