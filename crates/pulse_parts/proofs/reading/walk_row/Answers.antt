use Rattle.std.proofs.Common.{arith}
use Rattle.pulse_parts.proofs.reading.walk_row.Goals as goal
use Rattle.pulse_parts.proofs.ReadNodeLaws.{pushes_of_row}

pub returns-clause-row : goal.returns-clause-row
returns-clause-row c = pushes_of_row c.args.net.now c.args.v c.nodes-nodes.result c.args.excess c.heads-heads.result.now c.args.residuals.now c.args.labels.now c.write_pushes.new.row
    c.nodes-nodes.ensures c.heads-heads.ensures.value (omega arith) c.write_pushes.ensures
