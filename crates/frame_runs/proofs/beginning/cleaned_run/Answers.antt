use Rattle.std.proofs.Common.{ℕ, List, ◌∙◌, ap, length, sym, subst}
use Rattle.aig_graph.specs.Circuits.{Netlist}
use Rattle.aig_graph.specs.Graph.{Graph}
use Rattle.cleaned_circuits.proofs.PassLaws.{IsCircuit, cleans-streams}
use Rattle.frame_runs.specs.Beginning.{IsCleanedRun}
use Rattle.frame_runs.specs.Following.{ComesOn}
use Rattle.frame_runs.specs.Given.{circuit_of}
use Rattle.frame_runs.proofs.FrameLaws.{cleaned-by, underway-first}
use Rattle.frame_runs.proofs.beginning.cleaned_run.Goals as goal

pub first_cleaned-requires-clause-there : goal.first_cleaned-requires-clause-there
first_cleaned-requires-clause-there g c = c.requires.there

pub first_cleaned-requires-clause-in_range : goal.first_cleaned-requires-clause-in_range
first_cleaned-requires-clause-in_range g c = c.requires.in_range

pub returns-in-Ok : goal.returns-in-Ok
returns-in-Ok g c =
    let has_come = g.F.RunFollower.has_come in
    let options = c.args.options.now in
    let before = circuit_of c.args.given in
    let at = c.circuit-lent.ensures in
    let held = c.args.keep.now in
    let cleaned = c.in-Ok.cleaned in
    let begun = c.begun.result in
    let is = c.begun.ensures in
    let old = c.args.follower in
    let new = c.first_cleaned.new.follower in
    let valid : IsCircuit before = subst IsCircuit at (record { graph = c.known.ensures.graph; netlist = c.known.ensures.netlist }) in
    let streams = cleans-streams cleaned.circuit held before cleaned.kept_free c.in-Ok.ensures.cleaned valid in
    let by = cleaned-by held before cleaned valid c.requires.in_range (record { cleans = c.in-Ok.ensures.cleaned; held_after = c.in-Ok.ensures.held }) streams in
    let latches = is.read_latches ∙ ap length (c.latches.ensures.value ∙ ap (λ (g : Graph). g.latches) c.aig.ensures.value) ∙ ap (λ (d : Netlist). length d.aig.latches) at in
    let P : Netlist → List ℕ → Type 0 = λ d js. ComesOn has_come old new before d js in
    let run : IsCleanedRun has_come options c.args.bound before held old new begun.retimed begun.keep = record {
      underway = underway-first options c.args.bound before held cleaned begun.retimed begun.keep by is.circuit is.kept_free is.keep latches is.merged is.frames;
      comes = subst (λ (d : Netlist). P d begun.retimed.kept_free) (sym is.circuit) (subst (P cleaned.circuit) (sym is.kept_free) c.in-Ok.ensures.comes);
    } in
    (subst (λ f. IsCleanedRun has_come options c.args.bound before held old f begun.retimed begun.keep) (sym is.follower) run, is.bound)
