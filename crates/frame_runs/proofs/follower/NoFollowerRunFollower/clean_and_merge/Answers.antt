use Rattle.std.proofs.Common.{◌∙◌}
use Rattle.std.proofs.lemmas.Result.{IfOk-weaker}
use Rattle.frame_runs.proofs.MergedLaws.{given-none, given-some}
use Rattle.frame_runs.proofs.follower.NoFollowerRunFollower.clean_and_merge.Goals as goal

pub returns-in-Some-clause-merges : goal.returns-in-Some-clause-merges
returns-in-Some-clause-merges c = IfOk-weaker c.started_by.result _ _ (λ m is. is.merges) c.started_by.ensures.start

pub returns-in-None-clause-merges : goal.returns-in-None-clause-merges
returns-in-None-clause-merges c = IfOk-weaker c.started.result _ _ (λ m is. is.merges) c.started.ensures

pub returns-in-Some-clause-in_range : goal.returns-in-Some-clause-in_range
returns-in-Some-clause-in_range c = IfOk-weaker c.started_by.result _ _ (λ m is. is.in_range) c.started_by.ensures.start

pub returns-in-None-clause-in_range : goal.returns-in-None-clause-in_range
returns-in-None-clause-in_range c = IfOk-weaker c.started.result _ _ (λ m is. is.in_range) c.started.ensures

pub returns-in-Some-clause-streams : goal.returns-in-Some-clause-streams
returns-in-Some-clause-streams c = IfOk-weaker c.started_by.result _ _ (λ m is. is.streams) c.started_by.ensures.start

pub returns-in-None-clause-streams : goal.returns-in-None-clause-streams
returns-in-None-clause-streams c = IfOk-weaker c.started.result _ _ (λ m is. is.streams) c.started.ensures

pub returns-in-Some-clause-stay : goal.returns-in-Some-clause-stay
returns-in-Some-clause-stay c = IfOk-weaker c.started_by.result _ _ (λ m is. is.stay) c.started_by.ensures.start

pub returns-in-None-clause-stay : goal.returns-in-None-clause-stay
returns-in-None-clause-stay c = IfOk-weaker c.started.result _ _ (λ m is. is.stay) c.started.ensures

pub returns-in-Some-clause-given : goal.returns-in-Some-clause-given
returns-in-Some-clause-given c =
    IfOk-weaker c.started_by.result _ _ (λ m same. given-some c.args.options.now c.in-Some.lines m.merged c.in-Some.is (same ∙ c.as_slice.ensures)) c.started_by.ensures.given

pub returns-in-None-clause-given : goal.returns-in-None-clause-given
returns-in-None-clause-given c = IfOk-weaker c.started.result _ _ (λ m is. given-none c.args.options.now m.merged c.in-None.is) c.started.ensures
