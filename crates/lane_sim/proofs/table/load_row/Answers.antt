use Rattle.lane_sim.proofs.table.load_row.Goals as goal

pub with-requires : goal.with-requires
with-requires c = c.requires.lane
