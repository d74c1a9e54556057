-- A step of a state map that merges latches.
use Rattle.std.specs.Prelude.{ℕ, ◌≡◌, List, length, map}
use Rattle.aig_graph.specs.Circuits.{AreLiteralsOf, IsNetlist, Netlist}
use Rattle.aig_graph.specs.Graph.{Graph, IsGraph, first_latch, free_latches}
use Rattle.merged_circuits.specs.Inductive.{IsMergedBy}
use Rattle.merged_circuits.specs.Readings.{IsReading}
use Rattle.map_circuits.specs.Constraining.{AddsSubstitutes, AreOne, substitute_function}
use Rattle.map_circuits.specs.Following.{state_of}
use Rattle.state_maps.specs.States.{IsStateMap}

-- a reading, whatever latches are held
abbrev pub IsSomeReading : Graph → List ℕ → Type 0
IsSomeReading g reads = (held : List ℕ) × IsReading g held reads

-- a map to d, constrained so that each latch equals its reading, is one to what d is merged to
abbrev pub MergingStep : Netlist → Netlist → Netlist → List ℕ → List ℕ → List ℕ → Graph → Graph → List ℕ → List ℕ → List ℕ → Type 0
MergingStep c d e held reads kept g h functions old new = IsGraph d.aig → IsNetlist d → IsMergedBy held reads d e → IsGraph g → AreLiteralsOf g functions
    → length functions ≡ length d.aig.latches → length kept ≡ free_latches d.aig → IsStateMap c d kept (AreOne g old) (state_of g functions)
    → AddsSubstitutes g (first_latch d.aig) functions reads (length reads) h old new → IsStateMap c e kept (AreOne h new) (state_of h functions)

-- the functions of what the latches read as, by those of the latches
abbrev pub read_functions : ℕ → List ℕ → List ℕ → List ℕ
read_functions first functions reads = map (substitute_function first functions) reads

-- so is one in which each latch has the function of what it reads as
abbrev pub MergedStep : Netlist → Netlist → Netlist → List ℕ → List ℕ → List ℕ → Graph → Graph → List ℕ → List ℕ → List ℕ → Type 0
MergedStep c d e held reads kept g h functions old new = IsGraph d.aig → IsNetlist d → IsMergedBy held reads d e → IsGraph g → AreLiteralsOf g functions
    → length functions ≡ length d.aig.latches → length kept ≡ free_latches d.aig → IsStateMap c d kept (AreOne g old) (state_of g functions)
    → AddsSubstitutes g (first_latch d.aig) functions reads (length reads) h old new
    → IsStateMap c e kept (AreOne h new) (state_of h (read_functions (first_latch d.aig) functions reads))
