use Rattle.lane_sim.specs.Blocks.{row_in}
use Rattle.lane_sim.specs.Comparing.{AreSameAt, steps_of}
use Rattle.lane_sim.proofs.difference.step_difference.Given as goal

abbrev pub invariant-loop-lane : goal.invariant-loop-lane
invariant-loop-lane l = AreSameAt l.lane l.step (steps_of l.sequences) (λ k. row_in k l.xs) (λ k. row_in k l.ys)
