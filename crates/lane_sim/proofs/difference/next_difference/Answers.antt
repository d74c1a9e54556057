use Rattle.std.proofs.Common.{◌∙◌, sym, arith}
use Rattle.std.proofs.lemmas.List.{length-map}
use Rattle.aig_graph.specs.Streams.{property_literals}
use Rattle.lane_sim.specs.Blocks.{in_lane, row_in}
use Rattle.lane_sim.specs.Comparing.{row_at, steps_of}
use Rattle.lane_sim.specs.Traces.{value_in}
use Rattle.lane_sim.proofs.ComparingLaws.{as_long, compares-rows}
use Rattle.lane_sim.proofs.difference.next_difference.Goals as goal

pub step_difference-requires-clause-places : goal.step_difference-requires-clause-places
step_difference-requires-clause-places c =
    let a = c.args.a.now in
    let b = c.args.b.now in
    let t = c.args.step in
    rw (c.as_slice.ensures, c.as_slice-2.ensures) (as_long 0 c.in_ok-xs.xs c.in_ok-ys.ys (row_at t a 0) (row_at t b 0) (c.in_ok-xs.ensures.row 0 (omega arith)) (c.in_ok-ys.ensures.row 0 (omega arith))
    (length-map (property_literals b.circuit.now.props) (value_in b.circuit.now.aig (in_lane b.sequences.now 0) t) ∙ c.requires.sides.literals
    ∙ sym (length-map (property_literals a.circuit.now.props) (value_in a.circuit.now.aig (in_lane a.sequences.now 0) t))))

pub returns-clause-found : goal.returns-clause-found
returns-clause-found c =
    let a = c.args.a.now in
    let b = c.args.b.now in
    let t = c.args.step in
    let few = c.requires.sides.first in
    compares-rows c.args.lanes t (steps_of a.sequences.now) (λ k. row_in k c.as_slice.result.now) (λ k. row_in k c.as_slice-2.result.now) (row_at t a) (row_at t b) c.step_difference.result
    (λ s h. rw c.as_slice.ensures (c.in_ok-xs.ensures.row s (omega (arith, h, c.requires.lanes, few))))
    (λ s h. rw c.as_slice-2.ensures (c.in_ok-ys.ensures.row s (omega (arith, h, c.requires.lanes, few))))
    c.step_difference.ensures
