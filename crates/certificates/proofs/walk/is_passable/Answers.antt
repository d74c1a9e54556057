use Rattle.std.proofs.Common.{◌∙◌}
use Rattle.frame_net.proofs.PassableLaws.{has-passable}
use Rattle.certificates.proofs.walk.is_passable.Goals as goal

pub returns : goal.returns
returns c = λ g held pass. c.has.ensures.value ∙ has-passable g held c.args.pass.now.first c.args.pass.now.marks.items c.args.var pass.first pass.marks
