-- Runs that merge latches which always agree before the first frame.
use Rattle.std.specs.Prelude.{ℕ, ◌≡◌, List, Some, true, length}
use Rattle.aig_graph.specs.Circuits.{Netlist}
use Rattle.aig_graph.specs.Streams.{SameStreams}
use Rattle.certificates.specs.declared.merged.MergedLatch.{MergedLatch}
use Rattle.retimed_circuits.specs.declared.report.Retimed.{Retimed}
use Rattle.retimed_circuits.specs.Merging.{MergesIn}
use Rattle.retimed_circuits.specs.Names.{StayHeld}
use Rattle.retimed_circuits.specs.Retiming.{since_merged}
use Rattle.frame_runs.specs.declared.options.Options.{Options}
use Rattle.frame_runs.specs.Named.{kept_by}

-- a circuit that was read and merged: how many latches it has, at which places free ones stand that
-- stay, and which were merged
pub record ReadCircuit : Type 0 where
  pub latches : ℕ
  pub kept_free : List ℕ
  pub merged : List MergedLatch

-- the lines are those that the options have, if any
abbrev pub AreGivenLines : Options → List MergedLatch → Type 0
AreGivenLines options lines = (given : List MergedLatch) → options.classes ≡ Some given → lines ≡ given

-- the latches that were merged are those of the options, if these have latches to be merged
abbrev pub IsMergedAsGiven : Options → Retimed → Type 0
IsMergedAsGiven options r = options.merge ≡ true → (given : List MergedLatch) → options.classes ≡ Some given → r.merged ≡ Some given

-- c cleaned and merged, the positions of its held latches then, and what is reported of c
pub record IsRunStart (options : Options) (c start : Netlist) (held : List ℕ) (read : ReadCircuit) : Type 0 where
  pub latches : read.latches ≡ length c.aig.latches
  pub merges : MergesIn (kept_by options c) c start read.kept_free held read.merged
  pub streams : SameStreams c start read.kept_free
  pub stays : StayHeld (kept_by options c) c held start
  pub given : AreGivenLines options read.merged

-- what is reported of the circuit that was read, if this is what frames start from retimed
abbrev pub reported_of_read : ReadCircuit → Retimed → Retimed
reported_of_read read r = since_merged read.latches read.kept_free read.merged r
