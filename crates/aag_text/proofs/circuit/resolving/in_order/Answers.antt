use Rattle.std.proofs.Common.{ℕ, ◌+◌, List, length, All, Some, sym, ap, subst, ◌∙◌}
use Rattle.aig_graph.specs.declared.graph.Gate.{Gate}
use Rattle.ascii_file.specs.order.Order.{IsOrder}
use Rattle.aag_text.specs.Numbering.{PlacedLists}
use Rattle.aag_text.specs.Arranging.{HasFanInsBelow}
use Rattle.aag_text.specs.Resolving.{placed_reads}
use Rattle.aag_text.proofs.ArrangeLaws.{computed_by, order_is, reads_in_file}
use Rattle.aag_text.proofs.circuit.resolving.in_order.Goals as goal

pub order-requires-clause-in_file : goal.order-requires-clause-in_file
order-requires-clause-in_file c =
    reads_in_file (1 + c.args.header.now.inputs + c.args.header.now.latches) c.as_slice.result.now
    (subst (λ (gs : List Gate). All (HasFanInsBelow (1 + c.args.header.now.inputs + c.args.header.now.latches + length gs)) gs) (sym (c.as_slice.ensures.value ∙ ap (λ (p : PlacedLists). p.gates) c.placed.view_is)) c.requires.placed.gates_below)

pub circuit-requires-clause-order : goal.circuit-requires-clause-order
circuit-requires-clause-order c =
    let computed = computed_by c.args.header.now c.args.placed c.as_slice.result.now c.in_ok-order.order.items (c.as_slice.ensures.value ∙ ap (λ (p : PlacedLists). p.gates) c.placed.view_is) c.in_ok-order.ensures in
    subst (IsOrder (placed_reads c.args.header.now c.args.placed)) (sym c.as_slice-2.ensures.value) (order_is c.args.header.now c.args.placed c.in_ok-order.order.items computed)

pub returns-in-Ok-clause-ok : goal.returns-in-Ok-clause-ok
returns-in-Ok-clause-ok c =
    let computed = computed_by c.args.header.now c.args.placed c.as_slice.result.now c.in_ok-order.order.items (c.as_slice.ensures.value ∙ ap (λ (p : PlacedLists). p.gates) c.placed.view_is) c.in_ok-order.ensures
    ∙ ap (λ (os : List ℕ). Some os) (sym c.as_slice-2.ensures.value) in
    record { order = c.as_slice-2.result.now; is_order = order_is c.args.header.now c.args.placed c.as_slice-2.result.now computed; computed = computed; arranged = c.in-Ok.ensures }
