use Rattle.pulse_parts.proofs.delivering.deliver_node.Goals as goal
use Rattle.std.proofs.Common.{◌∙◌, arith, length}
use Rattle.pulse_parts.specs.Parts.{values_of}
use Rattle.pulse_parts.proofs.DeliveredNodeLaws.{sent_same, label_same}

pub subtract_pushes-outflow-requires-clause-total : goal.subtract_pushes-outflow-requires-clause-total
subtract_pushes-outflow-requires-clause-total c =
    omega (arith, sent_same c.args.net.now (values_of c.args.parts.now) c.args.v (length c.args.row.now) c.push_row-own.result.now c.requires.row c.push_row-own.ensures.value, c.requires.safe.sends, c.ranges.excess.fits)

pub overflow_sub-result : goal.overflow_sub-result
overflow_sub-result c =
    omega (arith, sent_same c.args.net.now (values_of c.args.parts.now) c.args.v (length c.args.row.now) c.push_row-own.result.now c.requires.row c.push_row-own.ensures.value, c.requires.safe.sends, c.subtract_pushes-outflow.ensures.sum)

pub overflow_add-result : goal.overflow_add-result
overflow_add-result c =
    omega (arith, sent_same c.args.net.now (values_of c.args.parts.now) c.args.v (length c.args.row.now) c.push_row-own.result.now c.requires.row c.push_row-own.ensures.value, c.requires.safe.sends, c.requires.safe.excess_fits, c.subtract_pushes-outflow.ensures.sum, c.add_row-inflow.ensures.inflow)

pub returns-clause-excess : goal.returns-clause-excess
returns-clause-excess c =
    omega (arith, sent_same c.args.net.now (values_of c.args.parts.now) c.args.v (length c.args.row.now) c.push_row-own.result.now c.requires.row c.push_row-own.ensures.value, c.requires.safe.sends, c.subtract_pushes-outflow.ensures.sum, c.add_row-inflow.ensures.inflow)

pub returns-clause-label : goal.returns-clause-label
returns-clause-label c =
    label_same c.args.net.now c.args.labels.now (values_of c.args.parts.now) c.args.v c.args.excess c.subtract_pushes-outflow.result c.next_label-label.result c.args.row.now c.add_row-inflow.new.row
    (c.subtract_pushes-outflow.ensures.sum ∙ sent_same c.args.net.now (values_of c.args.parts.now) c.args.v (length c.args.row.now) c.push_row-own.result.now c.requires.row c.push_row-own.ensures.value)
    (λ k l. omega (arith, c.add_row-inflow.ensures.row k l, c.subtract_pushes-outflow.ensures.row k (omega (arith, c.requires.row)), c.push_row-own.ensures.value k l, c.requires.safe.owns k l))
    c.next_label-label.ensures
