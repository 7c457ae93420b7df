-- `diagram_text::encode_in` meets its contract: the refusal, or the text of the words. Assumes nothing.
use mathlib.Core.Path.{refl}
use Rattle.desk.proofs.RunLaws.{printed_as, list_refused, listed, listed_text, begins_long}
use Rattle.diagram_text.proofs.encode_in.Goals as goal

pub slice_bounds-print_text-end : goal.slice_bounds-print_text-end
slice_bounds-print_text-end c = (begins_long (listed _ _ _ _ c.encode.ensures c.requires c.in-Written.tally c.in-Written.is).the_words).0

pub slice_bounds-print_text-end-in-Written : goal.slice_bounds-print_text-end-in-Written
slice_bounds-print_text-end-in-Written c = (begins_long (listed _ _ _ _ c.encode.ensures c.requires c.in-Written.tally c.in-Written.is).the_words).1

pub print_text-requires : goal.print_text-requires
print_text-requires c = (listed _ _ _ _ c.encode.ensures c.requires c.in-Written.tally c.in-Written.is).well

pub returns-in-Refused : goal.returns-in-Refused
returns-in-Refused c = printed_as (list_refused _ _ _ _ c.encode.ensures c.requires c.in-Refused.r c.in-Refused.is) refl c.print_refusal.ensures

pub returns-in-Written : goal.returns-in-Written
returns-in-Written c =
    let l = listed _ _ _ _ c.encode.ensures c.requires c.in-Written.tally c.in-Written.is in
    printed_as l.passes_all (listed_text _ _ _ _ c.encode.ensures c.requires l) c.print_text.ensures
