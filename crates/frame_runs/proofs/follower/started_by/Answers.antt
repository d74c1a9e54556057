use Rattle.std.proofs.Common.{subst}
use Rattle.latch_merging.specs.Starts.{IsGivenStart}
use Rattle.latch_merging.specs.declared.given.GivenStart.{GivenStart}
use Rattle.frame_runs.proofs.follower.started_by.Goals as goal

pub returns-in-Ok-Merged-clause-start : goal.returns-in-Ok-Merged-clause-start
returns-in-Ok-Merged-clause-start c =
    let P : GivenStart → Type 0 = IsGivenStart c.args.keep.now c.args.circuit.now c.args.lines.now in
    (subst P c.in-Ok-Merged.field-0-is c.in-Ok-Merged.ensures).0

pub returns-in-Ok-Merged-clause-given : goal.returns-in-Ok-Merged-clause-given
returns-in-Ok-Merged-clause-given c =
    let P : GivenStart → Type 0 = IsGivenStart c.args.keep.now c.args.circuit.now c.args.lines.now in
    (subst P c.in-Ok-Merged.field-0-is c.in-Ok-Merged.ensures).1
