use Rattle.std.proofs.Common.{◌∙◌, arith}
use Rattle.lane_sim.proofs.TableLaws.{HoldsBelow-inputs, digit_loaded}
use Rattle.lane_sim.specs.Blocks.{in_lane}
use Rattle.lane_sim.proofs.table.load_inputs.Goals as goal

pub returns : goal.returns
returns c = λ k h state.
    let inputs = c.inputs-inputs.ensures.value in
    HoldsBelow-inputs c.args.aig.now c.inputs-inputs.ensures.graph (in_lane c.args.sequences.now k) c.args.table.now c.loop-k.table k c.args.step state
    (λ i l. c.loop-k.invariant.loaded i k (omega (arith, inputs)) h ∙ digit_loaded c.args.sequences.now k c.loop-k.k c.args.step i c.loop-k-test.false)
    (c.loop-k.invariant.constant)
    (λ v l. c.loop-k.invariant.after v (omega (arith, inputs)))

pub clear_inputs-requires : goal.clear_inputs-requires
clear_inputs-requires c = omega (arith, c.requires.variables, c.inputs-inputs.ensures.value)

pub load_row-requires-clause-inputs : goal.load_row-requires-clause-inputs
load_row-requires-clause-inputs c = omega (arith, c.requires.variables, c.inputs-inputs.ensures.value, c.loop-k.auto.table)

pub load_row-requires-clause-lane : goal.load_row-requires-clause-lane
load_row-requires-clause-lane c = omega (arith, c.requires.lanes, c.loop-k-test.true)
