use Rattle.std.proofs.Common.{◌+◌, ◌<◌, List, length, map, All, sym, ap, subst, ◌∙◌}
use Rattle.aig_graph.specs.declared.graph.Gate.{Gate}
use Rattle.aig_graph.specs.declared.graph.Latch.{Latch}
use Rattle.aag_text.specs.Numbering.{PlacedLists}
use Rattle.aag_text.specs.Arranging.{moved_latch, gates_in_order}
use Rattle.aag_text.proofs.ArrangeLaws.{movable_by, order_by, parts_are_graph}
use Rattle.aag_text.proofs.circuit.resolving.graph.Goals as goal

pub latches-requires-clause-movable : goal.latches-requires-clause-movable
latches-requires-clause-movable c = movable_by c.args.header.now c.args.sizes.now c.args.placed.now c.args.order.now c.args.ranks.now c.requires.placed c.requires.order c.requires.ranks

pub gates-requires-clause-movable : goal.gates-requires-clause-movable
gates-requires-clause-movable c = movable_by c.args.header.now c.args.sizes.now c.args.placed.now c.args.order.now c.args.ranks.now c.requires.placed c.requires.order c.requires.ranks

pub gates-requires-clause-order : goal.gates-requires-clause-order
gates-requires-clause-order c =
    subst (λ (gates : List Gate). All (λ g. g < length gates) c.args.order.now) (sym (c.as_slice-2.ensures.value ∙ ap (λ (p : PlacedLists). p.gates) c.placed.view_is))
    (order_by c.args.header.now c.args.sizes.now c.args.placed.now c.args.order.now c.args.ranks.now c.requires.placed c.requires.order c.requires.ranks)

pub from_parts-requires : goal.from_parts-requires
from_parts-requires c =
    parts_are_graph c.args.header.now c.args.sizes.now c.args.placed.now c.args.order.now c.args.ranks.now c.requires.placed c.requires.order c.requires.ranks c.in_ok-latches.latches.items c.in_ok-gates.gates.items
    (c.in_ok-latches.ensures ∙ ap (λ (ls : List Latch). map (moved_latch (1 + c.args.header.now.inputs + c.args.header.now.latches) c.args.ranks.now) ls) (c.as_slice.ensures.value ∙ ap (λ (p : PlacedLists). p.latches) c.placed.view_is))
    (c.in_ok-gates.ensures ∙ ap (λ (gs : List Gate). gates_in_order (1 + c.args.header.now.inputs + c.args.header.now.latches) c.args.ranks.now c.args.order.now gs) (c.as_slice-2.ensures.value ∙ ap (λ (p : PlacedLists). p.gates) c.placed.view_is))
