use Rattle.frame_runs.proofs.FollowingLaws.{cleaned-result}
use Rattle.frame_runs.proofs.settling.cleaned_over.Goals as goal

pub clean-cleaned-requires-clause-there : goal.clean-cleaned-requires-clause-there
clean-cleaned-requires-clause-there g c = c.requires.there

pub clean-cleaned-requires-clause-in_range : goal.clean-cleaned-requires-clause-in_range
clean-cleaned-requires-clause-in_range g c = c.requires.in_range

pub returns : goal.returns
returns g c =
    cleaned-result g.F.RunFollower.has_come c.args.keep c.args.circuit c.args.follower.now c.clean-cleaned.new.self c.clean-cleaned.result
    (record { graph = c.known.ensures.graph; netlist = c.known.ensures.netlist }) c.requires.in_range c.clean-cleaned.ensures.cleaned c.clean-cleaned.ensures.held c.clean-cleaned.ensures.comes
