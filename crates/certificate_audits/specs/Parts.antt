-- Replays of the parts of a file, one after another.
use Rattle.std.specs.Prelude.{ℕ, ◌<◌, All, List, [], ◌∷◌, length, Option, Some, None, IfSome}
use Rattle.aig_graph.specs.Circuits.{IsNetlist, Netlist}
use Rattle.aig_graph.specs.Graph.{IsGraph}
use Rattle.certificate_files.specs.declared.file.CertPart.{CertPart}
use Rattle.certificates.specs.declared.certificate.Certificate.{Certificate}
use Rattle.certificates.specs.declared.merged.MergedLatch.{MergedLatch}
use Rattle.retimed_circuits.specs.RetimingLevels.{KeepsLevels}
use Rattle.certificate_audits.specs.declared.moving.Stage.{Stage}
use Rattle.certificate_audits.specs.declared.outcome.Audit.{Audit}
use Rattle.certificate_audits.specs.declared.outcome.Replay.{Replay}
use Rattle.certificate_audits.specs.Laws.{HasStreamsOf}
use Rattle.certificate_audits.specs.Replays.{IsGivenReplay, IsReplay}

-- by the lines of merged latches, if the part has them
abbrev pub IsReplayBy : Option (List MergedLatch) → Option ℕ → List ℕ → Netlist → List Certificate → Replay → Type 0
IsReplayBy None bound held c blocks replay = IsReplay bound held c blocks replay
IsReplayBy (Some lines) bound held c blocks replay = IsGivenReplay bound held c lines blocks replay

-- the replay of a part that is about c
abbrev pub IsPartReplay : Option ℕ → List ℕ → Netlist → CertPart → Replay → Type 0
IsPartReplay bound held c part replay = IsReplayBy part.merged bound held c part.blocks replay

-- its held latches are latches of its circuit
abbrev pub IsStageInRange : Stage → Type 0
IsStageInRange s = All (λ j. j < length s.circuit.aig.latches) s.keep

-- The audits of parts, each replayed from what the one before ends in, and what the last ends in.
-- If something speaks against one, that is nothing, and the others aren't judged.
pub data ReplaysParts (bound : Option ℕ) : Option Stage → List CertPart → List Audit → Option Stage → Type 0 where
  no_more : (last : Option Stage) → ReplaysParts bound last [] [] last
  not_judged : (parts : List CertPart) → ReplaysParts bound None parts [] None
  judged : (s : Stage) (part : CertPart) (parts : List CertPart) (replay : Replay) (audits : List Audit) (last : Option Stage) → IsPartReplay bound s.keep s.circuit part replay
      → ReplaysParts bound replay.last parts audits last → ReplaysParts bound (Some s) (part ∷ parts) (replay.audit ∷ audits) last

-- what they end in has the streams of the first one's circuit
abbrev pub PartsLaw : Option ℕ → Stage → List CertPart → Type 0
PartsLaw bound s parts = (audits : List Audit) (last : Option Stage) → IsGraph s.circuit.aig → IsNetlist s.circuit → ReplaysParts bound (Some s) parts audits last
    → IfSome last (λ e. HasStreamsOf s.circuit e.circuit)

-- and no path longer than the bound, but for those that this one has
abbrev pub PartsLevelLaw : Option ℕ → Stage → List CertPart → Type 0
PartsLevelLaw bound s parts = (audits : List Audit) (last : Option Stage) → IsGraph s.circuit.aig → IsNetlist s.circuit → ReplaysParts bound (Some s) parts audits last
    → IfSome last (λ e. KeepsLevels bound s.circuit e.circuit)
