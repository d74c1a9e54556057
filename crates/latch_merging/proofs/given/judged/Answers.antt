use Rattle.std.proofs.Common.{ℕ, ◌+◌, ◌<◌, ◌≡◌, List, length, subst}
use Rattle.aig_graph.specs.Graph.{Graph, first_latch}
use Rattle.latch_readings.specs.Judgements.{IsJudgement, IsMisread}
use Rattle.latch_readings.specs.declared.judging.Judgement.{Judgement}
use Rattle.latch_merging.proofs.MisreadLaws.{misread-lines}
use Rattle.latch_merging.proofs.given.judged.Goals as goal

pub returns-in_ok-merged-in-Merged : goal.returns-in_ok-merged-in-Merged
returns-in_ok-merged-in-Merged c = (c.in_ok-merged-in-Merged.ensures.is, c.in_ok-merged-in-Merged.ensures.merged)

pub returns-in-Misread : goal.returns-in-Misread
returns-in-Misread c =
    let g : Graph = c.args.circuit.now.aig in
    let held : List ℕ = c.args.keep.now in
    let place : ℕ = c.in-Misread.place in
    let P : Judgement → Type 0 = IsJudgement c.args.circuit.now held c.as_slice.result.now in
    let misread : IsMisread g held c.as_slice.result.now place = subst P c.in-Misread.is c.in_ok-merged.ensures in
    misread-lines g held c.args.reads.items place c.variable_at.result c.requires (subst (λ (reads : List ℕ). IsMisread g held reads place) c.as_slice.ensures.value misread)
    (subst (λ (h : Graph). place < length h.latches → c.variable_at.result ≡ first_latch h + place) c.aig-aig.ensures.value c.variable_at.ensures)
