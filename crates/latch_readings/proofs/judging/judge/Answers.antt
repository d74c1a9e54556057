use Rattle.std.proofs.Common.{ℕ, List, ◌∙◌, subst}
use Rattle.aig_graph.specs.Graph.{Graph}
use Rattle.latch_readings.specs.Judgements.{IsMisread}
use Rattle.latch_readings.proofs.judging.judge.Goals as goal

pub returns-in-Some : goal.returns-in-Some
returns-in-Some c =
    let reads : List ℕ = c.args.reads.now in
    let place : ℕ = c.in-Some.place in
    subst (λ (g : Graph). IsMisread g c.args.keep.now reads place) c.aig-aig.ensures.value
    (subst (λ (held : List ℕ). IsMisread c.aig-aig.result.now held reads place) (c.in_ok-held.ensures.positions ∙ c.positions.ensures.value) c.in-Some.ensures.misread)
