use Rattle.std.proofs.Common.{◌∙◌, Option, None, Some, ap, sym}
use Rattle.std.proofs.lemmas.Bool.{cond-false, cond-true}
use Rattle.merged_circuits.specs.Counts.{counts_of}
use Rattle.merged_circuits.specs.declared.counts.MergeCounts.{MergeCounts}
use Rattle.json_reports.specs.Retimings.{are_merged, merged_lines}
use Rattle.json_reports.proofs.retiming.counts_of_merged.Goals as goal

pub returns-in_ok-lines : goal.returns-in_ok-lines
returns-in_ok-lines c =
    let parts = c.args.parts.now in
    let lines = c.as_slice.ensures.value ∙ c.in_ok-lines.ensures in
    let made : Option MergeCounts = Some (counts_of (merged_lines parts)) in
    ap (λ (counts : MergeCounts). Some counts) (c.counts_of.ensures ∙ ap counts_of lines) ∙ sym (cond-true (are_merged parts) made None (sym c.are_merged.ensures ∙ c.if-are_merged.true))

pub returns-else-are_merged : goal.returns-else-are_merged
returns-else-are_merged c =
    let parts = c.args.parts.now in
    let made : Option MergeCounts = Some (counts_of (merged_lines parts)) in
    sym (cond-false (are_merged parts) made None (sym c.are_merged.ensures ∙ c.if-are_merged.false))
