use Rattle.lane_sim.proofs.steps.simulate_step.Goals as goal

pub returns-clause-state : goal.returns-clause-state
returns-clause-state c = c.advance.ensures.next c.args.sequences.now c.args.step c.evaluate.ensures
