use Rattle.pulse.proofs.pushes.Pushes.arcs_walked.Goals as goal
use Rattle.pulse.proofs.FlowLaws.{pushes_unspent, rows_seen}

pub arcs_over-requires : goal.arcs_over-requires
arcs_over-requires c =
    rows_seen c.args.net.now c.args.self.now c.self.inside.parts.items c.as_slice.result.now c.self.inside.spent c.self.view_is c.as_slice.ensures.value
    (pushes_unspent c.args.self.now c.self.inside.parts.items c.self.inside.spent c.self.view_is c.requires.usable) c.requires.fits
