use Rattle.std.proofs.Common.{◌-◌, arith, ◌∙◌}
use Rattle.std.proofs.lemmas.Grind.{get_or_default_zero}
use Rattle.pulse_parts.specs.Parts.{cells_of}
use Rattle.pulse_parts.proofs.reading.walk_at.Goals as goal
use Rattle.pulse_parts.proofs.ReadRangeLaws.{one_read}

pub returns-clause-row : goal.returns-clause-row
returns-clause-row c =
    one_read c.args.net.now c.args.labels.now c.args.base c.args.v c.start-at.result c.start-next.result c.index-had.result.now (cells_of c.args.flow.now) c.part_of-part.result.now c.deref.result.now
    c.args.values.now c.walk_row.new.row c.known.ensures.network c.requires.v c.start-at.ensures c.start-next.ensures c.requires.from c.requires.to c.part_of-part.ensures c.deref.ensures.value
    (c.index-had.ensures ∙ get_or_default_zero c.part_of-part.result.now.excess.items (c.args.v - c.part_of-part.result.now.first) c.index-had.result.now (omega (arith, c.part_of-part.ensures.low, c.part_of-part.ensures.in_nodes))) (omega arith) c.walk_row.ensures.row
