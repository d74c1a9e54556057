use Rattle.pulse_parts.specs.Parts.{cells_of}
use Rattle.pulse_parts.proofs.walking.read_whole.Goals as goal
use Rattle.pulse_parts.proofs.WholeLaws.{cleared_fits, whole_after, zero_lists}

pub walk_part-requires-clause-part : goal.walk_part-requires-clause-part
walk_part-requires-clause-part c = cleared_fits c.args.net.now c.args.part.now c.clear_part.new.part c.requires.part c.clear_part.ensures

pub walk_part-requires-clause-zero : goal.walk_part-requires-clause-zero
walk_part-requires-clause-zero c = zero_lists c.args.net.now c.args.part.now c.clear_part.new.part c.requires.part c.clear_part.ensures

pub returns : goal.returns
returns c =
    whole_after c.args.net.now c.args.labels.now (cells_of c.args.flow.now) c.args.part.now c.clear_part.new.part c.walk_part.new.part c.requires.part c.clear_part.ensures c.walk_part.ensures
