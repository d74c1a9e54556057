use Rattle.std.proofs.Common.{List, arith, subst, sym}
use Rattle.std.specs.Vec.{with_items}
use Rattle.std.proofs.lemmas.List.{with_items_is}
use Rattle.pulse_parts.specs.declared.parts.PushPart.{PushPart}
use Rattle.pulse_parts.specs.Parts.{cells_of}
use Rattle.pulse_parts.specs.Start.{PushesNumbered}
use Rattle.pulse_parts.proofs.NumberLaws.{numbered_read_on}
use Rattle.pulse.specs.Values.{FlowState, PushState, flow_state, push_state}
use Rattle.pulse.specs.Phases.{RangeRead}
use Rattle.pulse.proofs.ranges.read_range.Goals as goal
use Rattle.pulse.proofs.FlowLaws.{flow_unspent, parts_seen, pushes_unspent, rows_of, rows_seen}
use Rattle.pulse.proofs.EventLaws.{range_read}

pub read_each-requires-clause-flow : goal.read_each-requires-clause-flow
read_each-requires-clause-flow c =
    parts_seen c.args.net.now c.args.flow.now c.flow.inside.parts.items c.as_slice-2.result.now c.flow.inside.labels.items c.flow.inside.delivered.items c.flow.inside.caps c.flow.inside.spent c.flow.view_is
    c.as_slice-2.ensures.value (flow_unspent c.args.flow.now c.flow.inside.parts.items c.flow.inside.labels.items c.flow.inside.delivered.items c.flow.inside.caps c.flow.inside.spent c.flow.view_is c.requires.unspent) c.requires.flow

pub read_each-requires-clause-parts : goal.read_each-requires-clause-parts
read_each-requires-clause-parts c =
    rows_seen c.args.net.now c.args.pushes.now c.pushes.inside.parts.items c.as_mut_slice.result.now c.pushes.inside.spent c.pushes.view_is c.as_mut_slice.ensures.value
    (pushes_unspent c.args.pushes.now c.pushes.inside.parts.items c.pushes.inside.spent c.pushes.view_is c.requires.usable) c.requires.pushes

pub returns : goal.returns
returns c =
    subst (λ (f : FlowState). RangeRead c.args.net.now f c.args.first c.args.end c.args.pushes.now (push_state (with_items c.pushes.inside.parts c.read_each.new.parts).items c.pushes.inside.spent)) c.flow.view_is
    (subst (λ (p : PushState). RangeRead c.args.net.now (flow_state c.flow.inside.parts.items c.flow.inside.labels.items c.flow.inside.delivered.items c.flow.inside.caps c.flow.inside.spent) c.args.first c.args.end p
    (push_state (with_items c.pushes.inside.parts c.read_each.new.parts).items c.pushes.inside.spent)) c.pushes.view_is
    (range_read c.args.net.now c.args.first c.args.end c.flow.inside.parts.items c.as_slice-2.result.now c.flow.inside.labels.items c.as_slice.result.now c.flow.inside.delivered.items c.flow.inside.caps c.flow.inside.spent
    c.pushes.inside.parts.items c.as_mut_slice.result.now c.read_each.new.parts (with_items c.pushes.inside.parts c.read_each.new.parts).items c.pushes.inside.spent c.known.ensures.network
    c.as_slice-2.ensures.value c.as_slice.ensures.value c.as_mut_slice.ensures.value (with_items_is c.pushes.inside.parts c.read_each.new.parts (omega arith)) (pushes_unspent c.args.pushes.now c.pushes.inside.parts.items c.pushes.inside.spent c.pushes.view_is c.requires.usable)
    (rows_of c.args.net.now c.args.pushes.now c.pushes.inside.parts.items c.pushes.inside.spent c.pushes.view_is (pushes_unspent c.args.pushes.now c.pushes.inside.parts.items c.pushes.inside.spent c.pushes.view_is c.requires.usable) c.requires.pushes) c.read_each.ensures.len c.requires.ordered (omega (arith, c.requires.within)) c.read_each.ensures.each))

pub invariant_of-pushes : goal.invariant_of-pushes
invariant_of-pushes c free =
    subst (λ (x : List PushPart). PushesNumbered x) (sym (with_items_is c.pushes.inside.parts c.read_each.new.parts (omega arith)))
    (numbered_read_on c.args.net.now c.as_slice.result.now c.args.first c.args.end (cells_of c.as_slice-2.result.now) c.as_mut_slice.result.now c.read_each.new.parts c.read_each.ensures.len c.read_each.ensures.each
    (subst (λ (x : List PushPart). PushesNumbered x) (sym c.as_mut_slice.ensures.value) (c.pushes.invariant free)))
