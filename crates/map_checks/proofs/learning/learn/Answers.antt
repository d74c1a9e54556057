use Rattle.map_checks.proofs.ImageLaws.{learns-of}
use Rattle.map_checks.proofs.learning.learn.Goals as goal

pub returns-clause-learns : goal.returns-clause-learns
returns-clause-learns c =
    learns-of c.image.new.shared c.args.first.now c.args.map.now c.args.equal.now c.image.new.equal c.assume_constraints.new.equal c.in_ok-image.image c.known.ensures.graph c.in_ok-image.ensures.view
    c.in_ok-image.ensures.right c.in_ok-is_new.ensures
