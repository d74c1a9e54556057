use Rattle.std.proofs.Common.{arith, length, reverse}
use Rattle.cut_cert.proofs.TrailLaws.{first-in}
use Rattle.cut_cert.proofs.trail.take_points.Goals as goal

pub point-requires : goal.point-requires
point-requires c = omega (
  arith,
  first-in (length c.args.marks.now) c.loop-node.marks (reverse c.loop-node.nodes.items) (reverse c.pop_marked.new.nodes.items) c.in-Some.node c.in-Some.ensures.nodes c.loop-node.invariant.on,
  c.requires.sized,
)
