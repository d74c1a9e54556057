use Rattle.std.proofs.lemmas.Result.{IfOk-weaker}
use Rattle.frame_runs.proofs.BeginningLaws.{merged-below, merged-reported}
use Rattle.frame_runs.proofs.beginning.merged_run.Goals as goal

pub cleaned_run-requires-clause-there : goal.cleaned_run-requires-clause-there
cleaned_run-requires-clause-there g c = c.requires.there

pub cleaned_run-requires-clause-in_range : goal.cleaned_run-requires-clause-in_range
cleaned_run-requires-clause-in_range g c = c.requires.in_range

pub run_of_read-requires : goal.run_of_read-requires
run_of_read-requires g c =
    merged-below g.F.RunFollower.has_come c.args.options.now c.args.bound c.args.start c.args.follower c.in_ok-run.run' c.requires.places c.in_ok-run.ensures.0

pub returns : goal.returns
returns g c =
    let run = c.in_ok-run.run' in
    IfOk-weaker c.run_of_read.result _ _
    (λ end same. merged-reported g.F.RunFollower.has_come c.args.options.now c.args.bound c.args.start c.args.latches c.args.follower run end c.in_ok-run.ensures.0 c.in_ok-run.ensures.1 same.0 same.1 same.2 same.3)
    c.run_of_read.ensures
