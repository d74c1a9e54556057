use Rattle.gate_sharing.proofs.SharedLaws.{grows-transitive}
use Rattle.map_checks.proofs.ImageLaws.{learns-then}
use Rattle.map_checks.proofs.learning.learn_all.Goals as goal

pub loop-preserved : goal.loop-preserved
loop-preserved c = record {
  grows = grows-transitive c.args.shared.now c.loop.shared c.learn.new.shared c.loop.invariant.grows c.in_ok-learn.ensures.grows;
  learns = learns-then c.loop.shared c.learn.new.shared c.args.first.now c.args.map.now c.args.equal.now c.loop.equal c.learn.new.equal c.in_ok-learn.ensures.grows c.loop.invariant.learns c.in_ok-learn.ensures.learns;
}

pub returns-then-not-branch-clause-learns : goal.returns-then-not-branch-clause-learns
returns-then-not-branch-clause-learns c =
    learns-then c.loop.shared c.learn.new.shared c.args.first.now c.args.map.now c.args.equal.now c.loop.equal c.learn.new.equal c.in_ok-learn.ensures.grows c.loop.invariant.learns c.in_ok-learn.ensures.learns
