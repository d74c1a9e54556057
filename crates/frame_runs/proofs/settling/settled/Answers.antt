use Rattle.frame_runs.proofs.FollowingLaws.{own-followed}
use Rattle.frame_runs.proofs.settling.settled.Goals as goal

pub returns-in-Ok-true : goal.returns-in-Ok-true
returns-in-Ok-true g c =
    own-followed g.F.RunFollower.has_come c.args.keep c.args.circuit c.args.follower.now c.as_cleaned.result c.as_cleaned.ensures.circuit c.as_cleaned.ensures.keep c.as_cleaned.ensures.kept_free
    (record { graph = c.is_settled.ensures.graph; netlist = c.is_settled.ensures.netlist }) c.requires.in_range (c.requires.normalised (c.in-Ok-true.ensures.lows c.in-Ok-true.field-0-test))
