-- The latches that a command holds, and why they can't be held.
use Rattle.std.specs.Prelude.{ℕ, ◌≡◌, List, Some, map, slice_get}
use Rattle.std.specs.Borrow.{Bor}
use Rattle.aig_graph.specs.Circuits.{Netlist}
use Rattle.aig_graph.specs.Keep.{Holding, held_of}
use Rattle.aig_graph.specs.declared.holding.HoldError.{HoldError}
use Rattle.aig_graph.specs.declared.holding.HoldError.TheVariants.{NoMemory, NoSuchLatch, NoSuchName}
use Rattle.counted_io.specs.Streams.{source_name}
use Rattle.counted_io.specs.declared.source.Source.{Source}
use Rattle.command_line.specs.declared.options.RetimingOptions.{RetimingOptions}
use Rattle.circuit_files.specs.declared.outcome.Failure.{Failure}
use Rattle.circuit_files.specs.declared.outcome.Failure.TheVariants as fails

-- the texts of names
abbrev pub texts_of : List (Bor (List ℕ)) → List (List ℕ)
texts_of names = map (λ name. name.now) names

-- the failure is one of these, by the name of what is read
abbrev pub OfSource : Source → (Bor (List ℕ) → Type 0) → Type 0
OfSource source IsFailure = (name : Bor (List ℕ)) × (name.now ≡ source_name source) × IsFailure name

-- which latches the options hold
abbrev pub holding_of : RetimingOptions → Holding
holding_of options = record { names = texts_of options.keep.items; positions = options.keep_latches.items }

-- their positions in a circuit
abbrev pub held_by : RetimingOptions → Netlist → List ℕ
held_by options c = held_of (holding_of options) c

-- the failure that an error is: the name or the position with this number is that of no latch, or
-- no memory
abbrev pub IsFailureOfHolding : Source → RetimingOptions → HoldError → Failure → Type 0
IsFailureOfHolding source options NoMemory failure = failure ≡ fails.Memory
IsFailureOfHolding source options (NoSuchName number) failure = (name : Bor (List ℕ)) → slice_get options.keep.items number ≡ Some name → OfSource source (λ path. failure ≡ fails.NoSuchName path name)
IsFailureOfHolding source options (NoSuchLatch number) failure = (position : ℕ) → slice_get options.keep_latches.items number ≡ Some position → OfSource source (λ path. failure ≡ fails.NoSuchLatch path position)
