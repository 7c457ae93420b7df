-- `encoder::emit_all` meets its contract: the options, the ends and the nodes one after the other. Assumes nothing.
use Rattle.std.proofs.Common.{sym, arith}
use Rattle.lists.proofs.BufferLaws.{kept}
use Rattle.diagram.specs.Lent.{lent_by}
use Rattle.encoder.proofs.EncodeLaws.{options_fit, few_values, units_fit, units_front, nodes_fit, all_front, nodes_room, nodes_wrote, clauses_room, clauses_front}
use Rattle.encoder.proofs.emit_all.Goals as goal

pub emit_options-p-requires-clause-domains_in_bounds : goal.emit_options-p-requires-clause-domains_in_bounds
emit_options-p-requires-clause-domains_in_bounds c = options_fit (lent_by c.diagram.inside.lists) c.diagram.invariant.0 c.diagram.invariant.1 c.args.out.now (clauses_room c.diagram.view_is _ c.requires)

pub emit_options-p-requires-clause-domains_bound : goal.emit_options-p-requires-clause-domains_bound
emit_options-p-requires-clause-domains_bound c = few_values (lent_by c.diagram.inside.lists) c.diagram.invariant.0 c.diagram.invariant.1 c.args.out.now (clauses_room c.diagram.view_is _ c.requires)

pub offset_bounds-out-p : goal.offset_bounds-out-p
offset_bounds-out-p c = omega (arith, units_fit (lent_by c.diagram.inside.lists) c.diagram.invariant.0 c.diagram.invariant.1 c.args.out.now (clauses_room c.diagram.view_is _ c.requires) c.emit_options-p.ensures, kept c.emit_options-p.ensures)

pub slice_bounds-emit_units-count : goal.slice_bounds-emit_units-count
slice_bounds-emit_units-count c = omega (arith, units_fit (lent_by c.diagram.inside.lists) c.diagram.invariant.0 c.diagram.invariant.1 c.args.out.now (clauses_room c.diagram.view_is _ c.requires) c.emit_options-p.ensures)

pub slice_bounds-emit_units-start : goal.slice_bounds-emit_units-start
slice_bounds-emit_units-start c = omega (arith, units_fit (lent_by c.diagram.inside.lists) c.diagram.invariant.0 c.diagram.invariant.1 c.args.out.now (clauses_room c.diagram.view_is _ c.requires) c.emit_options-p.ensures)

pub overflow_add-q : goal.overflow_add-q
overflow_add-q c = omega (arith, units_fit (lent_by c.diagram.inside.lists) c.diagram.invariant.0 c.diagram.invariant.1 c.args.out.now (clauses_room c.diagram.view_is _ c.requires) c.emit_options-p.ensures, kept c.emit_options-p.ensures, (units_front (lent_by c.diagram.inside.lists) c.diagram.invariant.0 c.diagram.invariant.1 c.args.out.now (clauses_room c.diagram.view_is _ c.requires) c.emit_options-p.ensures c.emit_units.ensures).next)

pub emit_nodes-requires : goal.emit_nodes-requires
emit_nodes-requires c = nodes_room (sym c.diagram.view_is) _ _ (nodes_fit (lent_by c.diagram.inside.lists) c.diagram.invariant.0 c.diagram.invariant.1 c.args.out.now (clauses_room c.diagram.view_is _ c.requires) c.emit_options-p.ensures c.emit_units.ensures)

pub returns : goal.returns
returns c = clauses_front c.diagram.view_is _ _ _ (all_front (lent_by c.diagram.inside.lists) c.diagram.invariant.0 c.diagram.invariant.1 c.args.out.now (clauses_room c.diagram.view_is _ c.requires) c.emit_options-p.ensures c.emit_units.ensures (nodes_wrote (sym c.diagram.view_is) _ _ _ _ c.emit_nodes.ensures))
