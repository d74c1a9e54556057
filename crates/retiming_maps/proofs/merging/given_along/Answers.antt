use Rattle.std.proofs.Common.{List, subst}
use Rattle.std.specs.Result.{IfOk}
use Rattle.certificates.specs.declared.merged.MergedLatch.{MergedLatch}
use Rattle.latch_merging.specs.Merging.{IsGivenMerging}
use Rattle.latch_merging.specs.declared.given.GivenMerging.{GivenMerging}
use Rattle.retiming_maps.specs.Merging.{IsGivenAlong}
use Rattle.retiming_maps.proofs.merging.given_along.Goals as goal

pub followed-requires-clause-map : goal.followed-requires-clause-map
followed-requires-clause-map c = c.requires

pub followed-requires-clause-merged : goal.followed-requires-clause-merged
followed-requires-clause-merged c =
    let P : GivenMerging → Type 0 = IsGivenMerging c.args.keep.now c.args.circuit.now c.args.lines.now in
    (subst P c.in-Ok-Merged.field-0-is c.in-Ok-Merged.ensures).0

pub returns-in-Ok-Merged : goal.returns-in-Ok-Merged
returns-in-Ok-Merged c =
    let held = c.args.keep.now in
    let before = c.args.circuit.now in
    let P : GivenMerging → Type 0 = IsGivenMerging held before c.args.lines.now in
    subst (λ (lines : List MergedLatch). IfOk c.followed.result (IsGivenAlong held before lines c.args.parts.now c.followed.new.parts))
    (subst P c.in-Ok-Merged.field-0-is c.in-Ok-Merged.ensures).1 c.followed.ensures
