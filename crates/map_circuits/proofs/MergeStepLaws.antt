-- A map to a circuit, with the constraints of a merging, is one to what the circuit is merged to.
use Rattle.std.proofs.Common.{ℕ, ◌≡◌, List, sym, subst}
use Rattle.aig_graph.specs.Circuits.{Netlist}
use Rattle.aig_graph.specs.Graph.{Graph, free_latches}
use Rattle.aig_graph.specs.Laws.{all_free, composed}
use Rattle.merged_circuits.proofs.MergingLaws.{IsGraph-merged_by, merged_by-streams}
use Rattle.state_maps.specs.States.{IsStateMap, State}
use Rattle.state_maps.proofs.FrameMapLaws.{restated}
use Rattle.state_maps.proofs.MapLaws.{maps-compose}
use Rattle.map_circuits.specs.Constraining.{AreOne}
use Rattle.map_circuits.specs.Following.{state_of}
use Rattle.map_circuits.proofs.SteppingLaws.{state-kept}
use Rattle.state_maps.specs.MergedStates.{ReadsHold}
use Rattle.state_maps.proofs.MergedStepLaws.{merging-maps}
use Rattle.map_circuits.specs.Steps.{MergingStep}
use Rattle.map_circuits.proofs.ReadsSubstituteLaws.{reads-below, reads-hold}
use Rattle.aig_graph.proofs.StreamLaws.{funext, composed-every}

-- the constraints of what latches read as make a map to a circuit one to what the circuit is merged
-- to
pub merging-step : (c d e : Netlist) (held reads kept : List ℕ) (g h : Graph) (functions old new : List ℕ) → MergingStep c d e held reads kept g h functions old new
merging-step c d e held reads kept g h functions old new valid netlist merged graph all many free p adds =
    let reading = merged.inductive.reading in
    let both : IsStateMap c e (composed kept (all_free d.aig)) (λ s. AreOne g old s × ReadsHold d.aig reads (state_of g functions s)) (λ s. state_of g functions s) =
    maps-compose c d e kept (all_free d.aig) (AreOne g old) (ReadsHold d.aig reads) (state_of g functions) (λ s. s)
    (IsGraph-merged_by held reads d e valid merged) (merged_by-streams held reads d e valid netlist merged).places p (merging-maps held reads d e valid netlist merged) in
    let told : IsStateMap c e (composed kept (all_free d.aig)) (AreOne h new) (state_of g functions) =
    restated c e (composed kept (all_free d.aig)) (λ s. AreOne g old s × ReadsHold d.aig reads (state_of g functions s)) (AreOne h new) (state_of g functions)
    (λ s here. (adds.says s).1 (here.0, reads-below d.aig held reads functions reading many g graph valid s here.1))
    (λ s ones. let here = (adds.says s).0 ones in (here.0, reads-hold d.aig held reads functions reading many g graph valid s merged.inductive here.1)) both in
    let same : state_of g functions ≡ state_of h functions = funext _ _ (λ s. sym (state-kept g h functions adds.extends all s)) in
    let P : List ℕ → Type 0 = λ places. IsStateMap c e places (AreOne h new) (state_of g functions) in
    let Q : (State → State) → Type 0 = λ to. IsStateMap c e kept (AreOne h new) to in
    subst Q same (subst P (composed-every kept (free_latches d.aig) free) told)
