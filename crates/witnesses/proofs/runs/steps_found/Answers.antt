use Rattle.std.proofs.Common.{◌≡◌, ◌∙◌, ◌∷◌, ◌++◌, [], List, IfOk, ap, ap₂, subst}
use Rattle.aig_graph.specs.Graph.{Graph}
use Rattle.lane_sim.specs.declared.stimulus.InputSequence.{InputSequence}
use Rattle.lane_sim.specs.Blocks.{in_lane}
use Rattle.witnesses.specs.declared.witness.Property.{Property}
use Rattle.witnesses.specs.Found.{AreFound}
use Rattle.witnesses.specs.Runs.{run_of}
use Rattle.witnesses.proofs.runs.steps_found.Goals as goal

pub returns-clause-found : goal.returns-clause-found
returns-clause-found c =
    let circuit = c.args.circuit.now in
    let w = c.args.witness.now in
    let run : InputSequence = run_of circuit.aig w in
    let runs : c.as_slice.result.now ≡ run ∷ [] =
    c.as_slice.ensures.value ∙ c.in_ok-push.ensures.items
    ∙ ap₂ (λ (rs : List InputSequence) (r : InputSequence). rs ++ r ∷ []) c.new-runs.ensures.items (c.in_ok-run_of.ensures ∙ ap (λ (g : Graph). run_of g w) c.aig.ensures.value) in
    subst (λ (ps : List Property). IfOk c.first_steps.result (λ found. AreFound circuit run ps found.items)) c.as_slice-2.ensures
    (subst (λ (rs : List InputSequence). IfOk c.first_steps.result (λ found. AreFound circuit (in_lane rs 0) c.as_slice-2.result.now found.items)) runs c.first_steps.ensures.found)
