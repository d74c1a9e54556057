-- What blocks end in keeps the bound.
use Rattle.std.proofs.Common.{ℕ, ◌≤◌, List, Option, Some, None, max, arith}
use Rattle.std.specs.Option.{IfSome}
use Rattle.aig_graph.specs.Circuits.{Netlist}
use Rattle.aig_graph.specs.Closed.{IsClosedSet}
use Rattle.cleaned_circuits.proofs.PassLaws.{IsCircuit, IsCircuit-cleans}
use Rattle.retimed_circuits.proofs.CircuitLaws.{moved-circuit}
use Rattle.retimed_circuits.proofs.CleaningLevelLaws.{cleans-levels}
use Rattle.merged_circuits.proofs.MergingLaws.{IsGraph-merged_by, IsNetlist-merged_by}
use Rattle.retimed_circuits.proofs.ReplacedLevelLaws.{merged_latches-levels}
use Rattle.retimed_circuits.specs.Frames.{CleansTo, held_over, moved_over}
use Rattle.path_levels.specs.Levels.{levels}
use Rattle.retimed_circuits.specs.RetimingLevels.{KeepsLevels}
use Rattle.certificates.specs.declared.certificate.Certificate.{Certificate}
use Rattle.certificates.specs.declared.merged.MergedLatch.{MergedLatch}
use Rattle.certificate_audits.specs.declared.outcome.End.{End}
use Rattle.certificate_audits.specs.declared.moving.Stage.{Stage}
use Rattle.certificate_audits.specs.declared.outcome.Replay.{Replay}
use Rattle.certificate_audits.specs.Audits.{IsNext, IsMoveTaken}
use Rattle.certificate_audits.specs.Laws.{MergedReplayLevelLaw, ReplayLevelLaw}
use Rattle.certificate_audits.specs.Replays.{EndIn, IsLast, IsReplay, no_more, at_end, after_move}

module _ (most : ℕ) where
  -- a circuit in order that keeps the bound, but for the paths of c
  record Bounded (c d : Netlist) : Type 0 where
    circuit : IsCircuit d
    kept : levels d ≤ max most (levels c)

  cleans-bounded : (held : List ℕ) (c d e : Netlist) (kept now : List ℕ) → Bounded c d → CleansTo held d e kept now → Bounded c e
  cleans-bounded held c d e kept now before cleans = record {
    circuit = IsCircuit-cleans e held d kept cleans.cleans before.circuit;
    kept = let low : levels e ≤ levels d = cleans-levels e held d kept cleans.cleans before.circuit in omega (arith, low, before.kept);
  }

  next-bounded : (held : List ℕ) (c d e : Netlist) (block : Certificate) (now : List ℕ) → Bounded c d → IsMoveTaken (Some most) held d block → IsNext held d block e now → Bounded c e
  next-bounded held c d e block now before taken next =
      let set : IsClosedSet d.aig held block.gates = taken.saves.confirmed.closed in
      let short : levels (moved_over held d block.gates) ≤ most = taken.keeps in
      let moved : Bounded c (moved_over held d block.gates) = record {
        circuit = moved-circuit held d block.gates before.circuit set (omega (arith, taken.saves.confirmed.counted, taken.saves.fewer));
        kept = omega (arith, short);
      } in
      cleans-bounded (held_over held d block.gates) c (moved_over held d block.gates) e next.kept now moved next.cleaned

  end-bounded : (held : List ℕ) (c d : Netlist) (blocks : List Certificate) (e : Netlist) (later : List ℕ) → Bounded c d → EndIn (Some most) held d blocks e later → Bounded c e
  end-bounded _ c _ _ _ _ before (no_more held d) = before
  end-bounded _ c _ _ _ _ before (at_end held d block none) = before
  end-bounded _ c _ _ _ _ before (after_move held now later d e f block rest taken next more) =
      end-bounded now c e rest f later (next-bounded held c d e block now before taken next) more

  last-bounded : (held : List ℕ) (c first : Netlist) (blocks : List Certificate) (end : End) (last : Option Stage) → Bounded c first → IsLast (Some most) held first blocks end last
      → IfSome last (λ s. KeepsLevels (Some most) c s.circuit)
  last-bounded held c first blocks end None before is = tt
  last-bounded held c first blocks end (Some s) before is = (end-bounded held c first blocks s.circuit s.keep before is).kept

  replay-bounded : (held : List ℕ) (c start : Netlist) (blocks : List Certificate) (replay : Replay) → Bounded c start → IsReplay (Some most) held start blocks replay
      → IfSome replay.last (λ s. KeepsLevels (Some most) c s.circuit)
  replay-bounded held c start blocks replay before is =
      last-bounded is.now c is.first blocks replay.audit.end replay.last (cleans-bounded held c start is.first is.kept is.now before is.cleaned) is.replays.last

unbounded : (c : Netlist) (last : Option Stage) → IfSome last (λ s. KeepsLevels None c s.circuit)
unbounded c None = tt
unbounded c (Some s) = tt

-- what the blocks of a replay end in keeps the bound
pub replay-levels : (bound : Option ℕ) (held : List ℕ) (c : Netlist) (blocks : List Certificate) → ReplayLevelLaw bound held c blocks
replay-levels None held c blocks replay graph netlist is = unbounded c replay.last
replay-levels (Some most) held c blocks replay graph netlist is =
    replay-bounded most held c c blocks replay (record { circuit = record { graph = graph; netlist = netlist }; kept = omega arith }) is

-- and so if latches were merged first
pub merged-replay-levels : (bound : Option ℕ) (held : List ℕ) (c : Netlist) (lines : List MergedLatch) (blocks : List Certificate) → MergedReplayLevelLaw bound held c lines blocks
merged-replay-levels None held c lines blocks replay graph netlist is = unbounded c replay.last
merged-replay-levels (Some most) held c lines blocks replay graph netlist is =
    let clean : Netlist = is.merges.clean in
    let whole : Bounded most c c = record { circuit = record { graph = graph; netlist = netlist }; kept = omega arith } in
    let first : Bounded most c clean = cleans-bounded most held c c clean is.kept is.start_held whole is.merges.cleaned in
    let low : levels is.start ≤ levels clean = merged_latches-levels is.start_held is.merges.reads clean is.start first.circuit.graph first.circuit.netlist is.merges.merged in
    let start : Bounded most c is.start = record {
      circuit = record {
        graph = IsGraph-merged_by is.start_held is.merges.reads clean is.start first.circuit.graph is.merges.merged;
        netlist = IsNetlist-merged_by is.start_held is.merges.reads clean is.start first.circuit.graph first.circuit.netlist is.merges.merged;
      };
      kept = omega (arith, low, first.kept);
    } in
    replay-bounded most is.start_held c is.start blocks replay start is.of_start
