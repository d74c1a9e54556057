use Rattle.std.proofs.Common.{arith}
use Rattle.pulse_parts.proofs.GatheredLaws.{from_nodes, pushing_lists}
use Rattle.pulse.proofs.pushes.arcs_over.Goals as goal

pub arcs_of-requires : goal.arcs_of-requires
arcs_of-requires c =
    from_nodes c.args.net.now c.args.parts.now c.loop-i.i c.index-parts-i.result c.as_slice.result.now c.requires (pushing_lists c.args.net.now c.args.parts.now c.requires) (omega arith) c.index-parts-i.is c.if-not-part.false c.as_slice.ensures.value
