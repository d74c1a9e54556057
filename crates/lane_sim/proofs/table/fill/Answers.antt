use Rattle.lane_sim.specs.Blocks.{in_lane}
use Rattle.lane_sim.proofs.table.fill.Goals as goal

pub returns-clause-values : goal.returns-clause-values
returns-clause-values c = λ k h constant holds.
    let s = in_lane c.args.sequences.now k in
    c.evaluate.ensures.values k c.args.step s h (c.load_inputs.ensures k h (c.load_latches.ensures k c.args.step s h constant holds))
