-- Laws of the states of merged circuits.
use Rattle.std.specs.Prelude.{ℕ, Bool, List, Option}
use Rattle.aig_graph.specs.Graph.{IsGraph}
use Rattle.aig_graph.specs.Circuits.{Netlist, IsNetlist}
use Rattle.aig_graph.specs.Keep.{Holding}
use Rattle.aig_graph.specs.Laws.{all_free}
use Rattle.aig_graph.specs.declared.choice.Choice.{Choice}
use Rattle.merged_circuits.specs.Inductive.{IsMergedBy}
use Rattle.retimed_circuits.specs.declared.report.Retimed.{Retimed}
use Rattle.retimed_circuits.specs.Retiming.{IsMergedRetimed}
use Rattle.state_maps.specs.States.{IsStateMap}
use Rattle.state_maps.specs.RetimedStates.{HasStateMap}
use Rattle.state_maps.specs.MergedStates.{ReadsHold}

-- merging maps each state to itself, if each latch holds the value of its reading
abbrev pub MergingMaps : List ℕ → List ℕ → Netlist → Netlist → Type 0
MergingMaps held reads c d = IsGraph c.aig → IsNetlist c → IsMergedBy held reads c d → IsStateMap c d (all_free c.aig) (ReadsHold c.aig reads) (λ s. s)

-- so there is a map that rests on a test
abbrev pub HasMergingMap : List ℕ → List ℕ → Netlist → Netlist → Type 0
HasMergingMap held reads c d = IsGraph c.aig → IsNetlist c → IsMergedBy held reads c d → HasStateMap c d (all_free c.aig)

-- and what a circuit is retimed to after it was merged has one
abbrev pub MergedRetimingMaps : Option ℕ → Choice → Holding → Netlist → ℕ → Bool → Retimed → Type 0
MergedRetimingMaps bound choice holding c max_frames certify r = IsGraph c.aig → IsNetlist c → IsMergedRetimed bound choice c holding max_frames certify r → HasStateMap c r.circuit r.kept_free
