use Rattle.std.proofs.Common.{◌≡◌, ◌∙◌, IfNone, List, Option, ℕ, sym, subst}
use Rattle.aig_graph.specs.Streams.{SameStreams}
use Rattle.state_maps.specs.MapCircuits.{IsMapCircuit}
use Rattle.map_checks.specs.declared.answer.Obligation.{Obligation}
use Rattle.map_checks.specs.declared.checking.Opening.{Opening}
use Rattle.map_checks.specs.Answers.{MapsFirstStates, IsOpeningOf, KeepsStates}
use Rattle.map_checks.proofs.AnswerLaws.{shows}
use Rattle.map_checks.proofs.checking.checked.Goals as goal

pub returns-in-None : goal.returns-in-None
returns-in-None c =
    let begun : MapsFirstStates c.args.first.now c.args.second.now c.args.map.now c.in-Kept.kept =
    subst (λ (o : Opening). IsOpeningOf c.args.first.now c.args.second.now c.args.map.now o) c.in-Kept.is c.in_ok-kept.ensures in
    let keeps : KeepsStates c.args.first.now c.args.second.now c.args.map.now =
    subst (λ (o : Option Obligation). IfNone o (KeepsStates c.args.first.now c.args.second.now c.args.map.now)) c.in-None.is c.in_ok-obligation_of_step.ensures in
    let places : c.from_vec.result ≡ c.in-Kept.kept = c.from_vec.ensures ∙ c.into_vec.ensures in
    subst (λ (kept : List ℕ). IsMapCircuit c.args.first.now c.args.second.now kept c.args.map.now × SameStreams c.args.first.now c.args.second.now kept) (sym places)
    (shows c.args.first.now c.args.second.now c.args.map.now c.in-Kept.kept c.known.ensures.graph c.known.ensures.netlist c.requires.latches c.requires.fitting begun keeps)
