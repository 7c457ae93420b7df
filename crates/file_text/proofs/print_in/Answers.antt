-- `file_text::print_in` meets its contract: the file's refusal, or what is printed of its diagram. Assumes nothing.
use mathlib.Core.Path.{refl, ap, ◌∙◌}
use Rattle.refusal.specs.Rules.{chain}
use Rattle.diagram.specs.Lent.{Lent}
use Rattle.diagram_file.specs.Promise.{sizes_same}
use Rattle.desk.specs.Output.{list_rules, diagram_text}
use Rattle.desk.proofs.RunLaws.{printed_as, begins_long, file_refused, filled, filled_diagram}
use Rattle.file_text.proofs.print_in.Goals as goal

pub slice_bounds-lists-end : goal.slice_bounds-lists-end
slice_bounds-lists-end c = (begins_long (filled _ _ _ _ c.read_diagram.ensures (sizes_same _ _ _ _ _ _ c.requires.0 c.requires.1 c.requires.2) c.in-Read.sizes c.in-Read.is).domains).0

pub slice_bounds-lists-end-in-Read : goal.slice_bounds-lists-end-in-Read
slice_bounds-lists-end-in-Read c = (begins_long (filled _ _ _ _ c.read_diagram.ensures (sizes_same _ _ _ _ _ _ c.requires.0 c.requires.1 c.requires.2) c.in-Read.sizes c.in-Read.is).domains).1

pub slice_bounds-lists-end-in-Read-2 : goal.slice_bounds-lists-end-in-Read-2
slice_bounds-lists-end-in-Read-2 c = (begins_long (filled _ _ _ _ c.read_diagram.ensures (sizes_same _ _ _ _ _ _ c.requires.0 c.requires.1 c.requires.2) c.in-Read.sizes c.in-Read.is).layers).0

pub slice_bounds-lists-end-in-Read-3 : goal.slice_bounds-lists-end-in-Read-3
slice_bounds-lists-end-in-Read-3 c = (begins_long (filled _ _ _ _ c.read_diagram.ensures (sizes_same _ _ _ _ _ _ c.requires.0 c.requires.1 c.requires.2) c.in-Read.sizes c.in-Read.is).layers).1

pub slice_bounds-lists-end-in-Read-4 : goal.slice_bounds-lists-end-in-Read-4
slice_bounds-lists-end-in-Read-4 c = (begins_long (filled _ _ _ _ c.read_diagram.ensures (sizes_same _ _ _ _ _ _ c.requires.0 c.requires.1 c.requires.2) c.in-Read.sizes c.in-Read.is).targets).0

pub slice_bounds-lists-end-in-Read-5 : goal.slice_bounds-lists-end-in-Read-5
slice_bounds-lists-end-in-Read-5 c = (begins_long (filled _ _ _ _ c.read_diagram.ensures (sizes_same _ _ _ _ _ _ c.requires.0 c.requires.1 c.requires.2) c.in-Read.sizes c.in-Read.is).targets).1

pub returns-in-Refused : goal.returns-in-Refused
returns-in-Refused c =
    let r = c.requires in
    printed_as (file_refused _ _ _ _ c.read_diagram.ensures (sizes_same _ _ _ _ _ _ r.0 r.1 r.2) c.in-Refused.r c.in-Refused.is) refl c.print_refusal.ensures

pub returns-in-Read : goal.returns-in-Read
returns-in-Read c =
    let r = sizes_same _ _ _ _ _ _ c.requires.0 c.requires.1 c.requires.2 in
    let f = filled _ _ _ _ c.read_diagram.ensures r c.in-Read.sizes c.in-Read.is in
    let d = filled_diagram _ _ _ _ c.read_diagram.ensures r f in
    printed_as (ap (λ (d : Lent). chain (list_rules d)) d ∙ f.goes_on) (ap diagram_text d) c.encode_lists.ensures
