use Rattle.std.proofs.Common.{ℕ, List, ◌≡◌, ◌∙◌, ap, subst}
use Rattle.aig_graph.specs.Circuits.{Netlist}
use Rattle.aig_graph.specs.Graph.{Graph}
use Rattle.merged_circuits.specs.Shown.{merged_graph}
use Rattle.unit_refutations.specs.Classes.{AreAlike}
use Rattle.latch_readings.proofs.JudgeLaws.{judges-right, none-open}
use Rattle.latch_readings.proofs.judging.judge_reading.Goals as goal

pub returns-in-None : goal.returns-in-None
returns-in-None c =
    let g : Graph = c.args.circuit.now.aig in
    let reads : List ℕ = c.args.reads.now in
    let same : c.aig-aig.result.now ≡ merged_graph g reads = c.aig-aig.ensures.value ∙ ap (λ (d : Netlist). d.aig) c.in_ok-merged.ensures in
    let alike : AreAlike (merged_graph g reads) reads = subst (λ (h : Graph). AreAlike h reads) same (none-open c.in_ok-open.open c.in-None.is c.in_ok-open.ensures) in
    record { inductive = judges-right g c.args.keep.now reads c.known.ensures.graph c.requires alike; circuit = c.in_ok-merged.ensures }
