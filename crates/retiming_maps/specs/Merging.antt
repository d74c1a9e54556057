-- A map of states that follows a merging.
use Rattle.std.specs.Prelude.{ℕ, ◌≡◌, List}
use Rattle.aig_graph.specs.Circuits.{Netlist}
use Rattle.clean.specs.declared.cleaning.Cleaned.{Cleaned}
use Rattle.certificates.specs.declared.merged.MergedLatch.{MergedLatch}
use Rattle.latch_merging.specs.declared.given.GivenMerging.{GivenMerging}
use Rattle.latch_merging.specs.declared.given.GivenMerging.TheVariants as merging
use Rattle.latch_merging.specs.declared.given.GivenStart.{GivenStart}
use Rattle.latch_merging.specs.declared.given.GivenStart.TheVariants.{Merged, Misread, NotShown}
use Rattle.latch_merging.specs.declared.merging.MergedCircuit.{MergedCircuit}
use Rattle.latch_merging.specs.declared.start.MergedStart.{MergedStart}
use Rattle.latch_merging.specs.Merging.{IsMergedCircuit}
use Rattle.latch_merging.specs.Starts.{IsStart, IsStartOf}
use Rattle.merged_circuits.specs.Inductive.{IsMergedBy}
use Rattle.retiming_maps.specs.declared.parts.MapParts.{MapParts}
use Rattle.retiming_maps.specs.Mapping.{LeadsOn, LeadsWhole}

-- what was a map to c before is one to what c is merged to by the reading
abbrev pub LeadsMerged : List ℕ → List ℕ → Netlist → MapParts → MapParts → Type 0
LeadsMerged held reads c old new = (d : Netlist) → IsMergedBy held reads c d → LeadsWhole c old d new

-- a merging that the map follows
pub record IsMergedAlong (held : List ℕ) (c : Netlist) (old new : MapParts) (m : MergedCircuit) : Type 0 where
  pub merged : IsMergedCircuit held c m
  pub leads : LeadsWhole c old m.circuit new

-- a merging that the map follows, of a circuit that was cleaned
pub record IsMergedAfter (d : Cleaned) (old new : MapParts) (m : MergedStart) : Type 0 where
  pub start : IsStartOf d m
  pub leads : LeadsWhole d.circuit old m.circuit new

-- a cleaning and then a merging that the map follows
pub record IsStartAlong (held : List ℕ) (c : Netlist) (old new : MapParts) (m : MergedStart) : Type 0 where
  pub start : IsStart held c m
  pub leads : LeadsOn c old m.circuit m.kept_free new

-- a merging by these lines that the map follows; what is refused claims nothing
abbrev pub IsGivenAlong : List ℕ → Netlist → List MergedLatch → MapParts → MapParts → GivenMerging → Type 0
IsGivenAlong held c lines old new (merging.Merged m) = IsMergedAlong held c old new m × (m.merged ≡ lines)
IsGivenAlong held c lines old new (merging.Misread latch) = Unit {0}
IsGivenAlong held c lines old new (merging.NotShown latch) = Unit {0}

-- so of a circuit that was cleaned
abbrev pub IsGivenAfter : Cleaned → List MergedLatch → MapParts → MapParts → GivenStart → Type 0
IsGivenAfter d lines old new (Merged m) = IsMergedAfter d old new m × (m.merged ≡ lines)
IsGivenAfter d lines old new (Misread latch) = Unit {0}
IsGivenAfter d lines old new (NotShown latch) = Unit {0}

-- so of a circuit that is cleaned first
abbrev pub IsGivenStartAlong : List ℕ → Netlist → List MergedLatch → MapParts → MapParts → GivenStart → Type 0
IsGivenStartAlong held c lines old new (Merged m) = IsStartAlong held c old new m × (m.merged ≡ lines)
IsGivenStartAlong held c lines old new (Misread latch) = Unit {0}
IsGivenStartAlong held c lines old new (NotShown latch) = Unit {0}
