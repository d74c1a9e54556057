use Rattle.std.proofs.Common.{◌≡◌, List, subst}
use Rattle.std.proofs.lemmas.Result.{IfOk-weaker}
use Rattle.certificates.specs.declared.merged.MergedLatch.{MergedLatch}
use Rattle.latch_merging.specs.Starts.{IsGivenStart, IsStart}
use Rattle.latch_merging.specs.declared.given.GivenStart.{GivenStart}
use Rattle.retimed_circuits.specs.Merging.{MergesIn}
use Rattle.certificate_audits.specs.Replays.{IsGivenReplay, IsReplay, misread, not_shown, replayed}
use Rattle.certificate_audits.proofs.merged.replay_merged.Goals as goal

pub start_by-requires : goal.start_by-requires
start_by-requires c = record { in_range = c.requires }

pub replay_of-requires : goal.replay_of-requires
replay_of-requires c =
    let P : GivenStart → Type 0 = IsGivenStart c.args.keep.now c.args.circuit.now c.args.merged.now in
    (subst P c.in-Ok-Merged.field-0-is c.in-Ok-Merged.ensures).0.in_range

pub returns-in-Ok-Merged : goal.returns-in-Ok-Merged
returns-in-Ok-Merged c =
    let held = c.args.keep.now in
    let before = c.args.circuit.now in
    let lines = c.args.merged.now in
    let start = c.in-Ok-Merged.start in
    let P : GivenStart → Type 0 = IsGivenStart held before lines in
    let is : IsStart held before start × (start.merged ≡ lines) = subst P c.in-Ok-Merged.field-0-is c.in-Ok-Merged.ensures in
    IfOk-weaker c.replay_of.result (IsReplay c.args.bound start.keep start.circuit c.args.blocks.now) (IsGivenReplay c.args.bound held before lines c.args.blocks.now)
    (λ replay of_start. replayed (record {
      start = start.circuit;
      kept = start.kept_free;
      start_held = start.keep;
      merges = subst (λ (ls : List MergedLatch). MergesIn held before start.circuit start.kept_free start.keep ls) is.1 is.0.merges;
      of_start = of_start;
    }))
    c.replay_of.ensures

pub returns-in-Ok-Misread : goal.returns-in-Ok-Misread
returns-in-Ok-Misread c = misread c.in-Ok-Misread.latch c.refused_by.ensures

pub returns-in-Ok-NotShown : goal.returns-in-Ok-NotShown
returns-in-Ok-NotShown c = not_shown c.in-Ok-NotShown.latch c.refused_by-in-Ok-NotShown.ensures
