-- Circuits that a retiming made, with a state map.
use Rattle.std.specs.Prelude.{ℕ, ◌&&◌, not, Bool, true, false, List, [], ◌∷◌, suc, Option, Some, IsTrue, if◌then◌else◌}
use Rattle.aig_graph.specs.declared.graph.Latch.{Latch}
use Rattle.aig_graph.specs.Graph.{Graph, IsGraph}
use Rattle.aig_graph.specs.Circuits.{Netlist, IsNetlist}
use Rattle.aig_graph.specs.Value.{value_within}
use Rattle.cleaned_circuits.specs.Latches.{latch_substitute}
use Rattle.aig_graph.specs.declared.choice.Choice.{Choice}
use Rattle.retimed_circuits.specs.declared.report.FrameReport.{FrameReport}
use Rattle.retimed_circuits.specs.Frames.{AfterFrames}
use Rattle.state_maps.specs.States.{State, IsStateMap}

-- two equal bits
abbrev pub agrees : Bool → Bool → Bool
agrees a b = if a then b else not b

-- what stands for each of these latches, numbered from j on, is what it holds
unfoldable pub substitute_right : Graph → List ℕ → State → ℕ → List Latch → Bool
substitute_right g held s j [] = true
substitute_right g held s j (latch ∷ latches) = agrees (value_within g (λ i. false) s (latch_substitute g held j (Some latch))) (s j) && substitute_right g held s (suc j) latches

-- there is a map of c's states to those of d, under a condition that holds at the start and from
-- step to step
abbrev pub HasStateMap : Netlist → Netlist → List ℕ → Type 0
HasStateMap c d kept = (holds : State → Bool) × (to : State → State) × IsStateMap c d kept (λ s. IsTrue (holds s)) to

-- every retiming has one, after any number of frames
abbrev pub RetimingMaps : Option ℕ → Choice → List ℕ → Netlist → ℕ → Netlist → List ℕ → List ℕ → List FrameReport → Type 0
RetimingMaps bound choice held c n d kept now reports = IsGraph c.aig → IsNetlist c → AfterFrames bound choice held c n d kept now reports → HasStateMap c d kept
