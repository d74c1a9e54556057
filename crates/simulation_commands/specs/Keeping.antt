-- Which free latches of the first of two circuits the second one has.
use Rattle.std.specs.Prelude.{ℕ, ◌≡◌, List, Option, Some, None, Result, Ok, Err, map}
use Rattle.std.specs.Borrow.{Bor}
use Rattle.counted_io.specs.Input.{Input}
use Rattle.aig_graph.specs.Circuits.{Netlist}
use Rattle.aig_graph.specs.Graph.{free_latches}
use Rattle.aig_graph.specs.Streams.{AreKept}
use Rattle.lane_sim.specs.Differences.{HaveKeptShape, HaveSameShape}
use Rattle.lane_sim.specs.Kept.{for_kept, read_kept}
use Rattle.lane_sim.specs.declared.fault.StimError.{StimError}
use Rattle.lane_sim.specs.declared.stimulus.InputSequence.{InputSequence}
use Rattle.counted_io.specs.declared.source.Source.{Source}
use Rattle.circuit_files.specs.Outcomes.{failure_of_stimulus}
use Rattle.circuit_files.specs.Reading.{IsReadingOfStdin}
use Rattle.circuit_files.specs.declared.outcome.Failure.{Failure}
use Rattle.circuit_files.specs.declared.outcome.Failure.TheVariants as fails
use Rattle.command_endings.specs.Sources.{IsReadAt}
use Rattle.simulation_commands.specs.declared.kept.Shared.{Shared}
use Rattle.simulation_commands.specs.declared.kept.Shared.TheVariants.{Each, Kept}

-- the places of a list for two circuits, or the failure that its fault is; memory may run out
abbrev pub AreKeptOf : Netlist → Netlist → List ℕ → Bor (List ℕ) → Result (List ℕ) Failure → Type 0
AreKeptOf c d bytes path (Ok kept) = read_kept (free_latches c.aig) (free_latches d.aig) bytes ≡ Ok kept
AreKeptOf c d bytes path (Err fails.Memory) = Unit {0}
AreKeptOf c d bytes path (Err failure) = (fault : StimError) × (read_kept (free_latches c.aig) (free_latches d.aig) bytes ≡ Err fault) × (failure ≡ failure_of_stimulus fault path)

-- the places of a list that is read: free latches of c, rising, one for each of d
pub record AreKeptAt (source : Source) (c d : Netlist) (old new : Input) (kept : List ℕ) : Type 0 where
  pub places : AreKept c d kept
  pub read : IsReadAt source old new (IsReadingOfStdin old new (AreKeptOf c d) (Ok kept))

-- each free latch if there is no list, for which nothing is read
abbrev pub AreSharedAt : Option Source → Netlist → Netlist → Input → Input → Shared → Type 0
AreSharedAt None c d old new Each = new ≡ old
AreSharedAt None c d old new (Kept kept) = ⊥
AreSharedAt (Some source) c d old new Each = ⊥
AreSharedAt (Some source) c d old new (Kept kept) = AreKeptAt source c d old new kept

-- the circuits can be compared if d has these free latches of c
abbrev pub HaveShape : Shared → Netlist → Netlist → Type 0
HaveShape Each c d = HaveSameShape c d
HaveShape (Kept kept) c d = HaveKeptShape kept c d

-- the sequences of c for d: each free latch begins as that of c which it is
abbrev pub sequences_for : Shared → List InputSequence → List InputSequence
sequences_for Each sequences = sequences
sequences_for (Kept kept) sequences = map (for_kept kept) sequences
