use Rattle.lane_sim.proofs.block.fn.simulate_blocks.map.Goals as goal

pub simulate_block-requires : goal.simulate_block-requires
simulate_block-requires c = record { literals = c.requires.literals; lanes = c.block.ensures.lanes }
