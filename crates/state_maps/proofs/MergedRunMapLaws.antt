-- What a circuit is retimed to after its latches were merged has a map of the circuit's states.
use Rattle.std.proofs.Common.{ℕ, Bool, ◌≡◌, ◌&&◌, length, List, Option, sym, subst}
use Rattle.std.specs.Bool.{IsTrue}
use Rattle.std.proofs.lemmas.Bool.{and_from, and_parts}
use Rattle.aig_graph.specs.Circuits.{Netlist}
use Rattle.aig_graph.specs.Graph.{IsGraph, free_latches}
use Rattle.aig_graph.specs.Keep.{Holding, held_of}
use Rattle.aig_graph.specs.Laws.{all_free, composed}
use Rattle.aig_graph.specs.Streams.{AreKept, SameStreams}
use Rattle.aig_graph.specs.declared.choice.Choice.{Choice}
use Rattle.aig_graph.proofs.StreamLaws.{composed-every}
use Rattle.cleaned_circuits.proofs.PassLaws.{IsCircuit, IsCircuit-cleans, cleans-streams}
use Rattle.merged_circuits.specs.Inductive.{IsMergedBy}
use Rattle.merged_circuits.proofs.MergingLaws.{IsGraph-merged_by, IsNetlist-merged_by, merged_by-streams}
use Rattle.retimed_circuits.specs.declared.report.Retimed.{Retimed}
use Rattle.retimed_circuits.specs.Frames.{CleansTo}
use Rattle.retimed_circuits.proofs.CircuitLaws.{after-circuit}
use Rattle.state_maps.specs.RetimedStates.{HasStateMap}
use Rattle.state_maps.proofs.FrameMapLaws.{cleans-has, restated, retiming-maps}
use Rattle.state_maps.proofs.MapLaws.{maps-compose}
use Rattle.state_maps.specs.MergingLaws.{MergedRetimingMaps}
use Rattle.state_maps.proofs.MergedStepLaws.{has-merging_map}

compose-has : (c d e : Netlist) (kept left : List ℕ) → IsGraph e.aig → AreKept d e left → HasStateMap c d kept → HasStateMap d e left → HasStateMap c e (composed kept left)
compose-has c d e kept left valid places p q = (
  λ s. p.0 s && q.0 (p.1 s),
  λ s. q.1 (p.1 s),
  restated c e (composed kept left) (λ s. IsTrue (p.0 s) × IsTrue (q.0 (p.1 s))) (λ s. IsTrue (p.0 s && q.0 (p.1 s))) (λ s. q.1 (p.1 s))
      (λ s both. and_from (p.0 s) (q.0 (p.1 s)) both.0 both.1) (λ s h. and_parts (p.0 s) (q.0 (p.1 s)) h)
      (maps-compose c d e kept left (λ s. IsTrue (p.0 s)) (λ s. IsTrue (q.0 s)) p.1 q.1 valid places p.2 q.2),
)

-- a retiming of a circuit that was merged first has a state map
pub merged-retiming_maps : (bound : Option ℕ) (choice : Choice) (holding : Holding) (c : Netlist) (max_frames : ℕ) (certify : Bool) (r : Retimed) → MergedRetimingMaps bound choice holding c max_frames certify r
merged-retiming_maps bound choice holding c max_frames certify r valid netlist run =
    let whole : IsCircuit c = record { graph = valid; netlist = netlist } in
    let clean : Netlist = run.merges.clean in
    let held : List ℕ = run.start_held in
    let cleans : CleansTo (held_of holding c) c clean run.kept held = run.merges.cleaned in
    let clean_whole : IsCircuit clean = IsCircuit-cleans clean (held_of holding c) c run.kept cleans.cleans whole in
    let reads : List ℕ = run.merges.reads in
    let merged : IsMergedBy held reads clean run.start = run.merges.merged in
    let start_whole : IsCircuit run.start = record {
      graph = IsGraph-merged_by held reads clean run.start clean_whole.graph merged;
      netlist = IsNetlist-merged_by held reads clean run.start clean_whole.graph clean_whole.netlist merged;
    } in
    let cleans_streams : SameStreams c clean run.kept = cleans-streams clean (held_of holding c) c run.kept cleans.cleans whole in
    let merges_streams : SameStreams clean run.start (all_free clean.aig) = merged_by-streams held reads clean run.start clean_whole.graph clean_whole.netlist merged in
    let to_start : HasStateMap c run.start (composed run.kept (all_free clean.aig)) =
    compose-has c clean run.start run.kept (all_free clean.aig) start_whole.graph merges_streams.places
    (cleans-has clean (held_of holding c) c run.kept cleans.cleans whole)
    (has-merging_map held reads clean run.start clean_whole.graph clean_whole.netlist merged) in
    let same : composed run.kept (all_free clean.aig) ≡ run.kept = composed-every run.kept (free_latches clean.aig) cleans_streams.places.each in
    let s : Retimed = run.from_start in
    let from_start : HasStateMap run.start s.circuit s.kept_free =
    retiming-maps bound choice held run.start (length s.frames) s.circuit s.kept_free run.retimed.now s.frames start_whole.graph start_whole.netlist run.retimed.frames in
    let last : IsCircuit s.circuit = after-circuit bound choice held run.start start_whole (length s.frames) s.circuit s.kept_free run.retimed.now s.frames run.retimed.frames in
    let P : List ℕ → Type 0 = λ places. HasStateMap c run.start places in
    let all : HasStateMap c s.circuit (composed run.kept s.kept_free) =
    compose-has c run.start s.circuit run.kept s.kept_free last.graph run.retimed.streams.places (subst P same to_start) from_start in
    let Q : Retimed → Type 0 = λ x. HasStateMap c x.circuit x.kept_free in
    subst Q (sym run.whole) all
