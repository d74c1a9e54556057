-- What blocks end in has the streams of the circuit.
use Rattle.std.proofs.Common.{ℕ, List, Option, Some, None, arith}
use Rattle.std.specs.Option.{IfSome}
use Rattle.aig_graph.specs.Circuits.{Netlist}
use Rattle.aig_graph.specs.Closed.{IsClosedSet}
use Rattle.aig_graph.specs.Laws.{all_free, composed}
use Rattle.aig_graph.specs.Move.{Move, move_of}
use Rattle.aig_graph.proofs.StreamLaws.{same_streams-reflexive, same_streams-transitive}
use Rattle.cleaned_circuits.proofs.PassLaws.{IsCircuit, IsCircuit-cleans, cleans-streams}
use Rattle.merged_circuits.proofs.MergingLaws.{IsGraph-merged_by, IsNetlist-merged_by, merged_by-streams}
use Rattle.rebuild.specs.Moved.{moved_of}
use Rattle.rebuild.proofs.StreamLaws.{same_streams}
use Rattle.retimed_circuits.specs.Frames.{CleansTo, held_over}
use Rattle.retimed_circuits.proofs.CircuitLaws.{moved-circuit}
use Rattle.certificates.specs.declared.certificate.Certificate.{Certificate}
use Rattle.certificates.specs.declared.merged.MergedLatch.{MergedLatch}
use Rattle.certificate_audits.specs.declared.outcome.End.{End}
use Rattle.certificate_audits.specs.declared.moving.Stage.{Stage}
use Rattle.certificate_audits.specs.declared.outcome.Replay.{Replay}
use Rattle.certificate_audits.specs.Audits.{IsNext, Saves}
use Rattle.certificate_audits.specs.Laws.{HasStreamsOf, MergedReplayLaw, ReplayLaw}
use Rattle.certificate_audits.specs.Replays.{EndIn, IsLast, IsMergedReplay, IsReplay, no_more, at_end, after_move}

-- d is a circuit with the streams of c
pub record Follows (c d : Netlist) : Type 0 where
  -- it is one
  pub circuit : IsCircuit d
  -- it has the streams
  pub streams : HasStreamsOf c d

cleans-follows : (held : List ℕ) (c d : Netlist) (kept now : List ℕ) → IsCircuit c → CleansTo held c d kept now → Follows c d
cleans-follows held c d kept now valid cleans = record {
  circuit = IsCircuit-cleans d held c kept cleans.cleans valid;
  streams = (kept, cleans-streams d held c kept cleans.cleans valid);
}

-- following a circuit that follows another
pub follows-then : (c d e : Netlist) → Follows c d → Follows d e → Follows c e
follows-then c d e p q = record {
  circuit = q.circuit;
  streams = (composed p.streams.0 q.streams.0, same_streams-transitive c d e p.streams.0 q.streams.0 p.streams.1 q.streams.1);
}

next-follows : (bound : Option ℕ) (held : List ℕ) (c d : Netlist) (block : Certificate) (now : List ℕ) → IsCircuit c → Saves bound held c block → IsNext held c block d now → Follows c d
next-follows bound held c d block now valid saves next =
    let m : Move = move_of c held block.gates in
    let set : IsClosedSet c.aig held block.gates = saves.confirmed.closed in
    let moved : IsCircuit (moved_of m) = moved-circuit held c block.gates valid set (omega (arith, saves.confirmed.counted, saves.fewer)) in
    let over : Follows c (moved_of m) = record { circuit = moved; streams = (all_free c.aig, same_streams m valid.graph valid.netlist set moved.graph) } in
    follows-then c (moved_of m) d over (cleans-follows (held_over held c block.gates) (moved_of m) d next.kept now moved next.cleaned)

end-follows : (bound : Option ℕ) (held : List ℕ) (c : Netlist) (blocks : List Certificate) (e : Netlist) (later : List ℕ) → IsCircuit c → EndIn bound held c blocks e later → Follows c e
end-follows bound _ _ _ _ _ valid (no_more held c) = record { circuit = valid; streams = (all_free c.aig, same_streams-reflexive c) }
end-follows bound _ _ _ _ _ valid (at_end held c block none) = record { circuit = valid; streams = (all_free c.aig, same_streams-reflexive c) }
end-follows bound _ _ _ _ _ valid (after_move held now later c d e block rest taken next more) =
    let moved : Follows c d = next-follows bound held c d block now valid taken.saves next in
    follows-then c d e moved (end-follows bound now d rest e later moved.circuit more)

last-streams : (bound : Option ℕ) (held : List ℕ) (c first : Netlist) (blocks : List Certificate) (end : End) (last : Option Stage) → Follows c first → IsLast bound held first blocks end last
    → IfSome last (λ s. Follows c s.circuit)
last-streams bound held c first blocks end None follows is = tt
last-streams bound held c first blocks end (Some s) follows is = follows-then c first s.circuit follows (end-follows bound held first blocks s.circuit s.keep follows.circuit is)

replay-from : (bound : Option ℕ) (held : List ℕ) (c start : Netlist) (blocks : List Certificate) (replay : Replay) → Follows c start → IsReplay bound held start blocks replay → IfSome replay.last (λ s. Follows c s.circuit)
replay-from bound held c start blocks replay follows is =
    last-streams bound is.now c is.first blocks replay.audit.end replay.last
    (follows-then c start is.first follows (cleans-follows held start is.first is.kept is.now follows.circuit is.cleaned)) is.replays.last

-- what the blocks of a replay end in has the streams of the circuit
pub replay-follows : (bound : Option ℕ) (held : List ℕ) (c : Netlist) (blocks : List Certificate) (replay : Replay) → IsCircuit c → IsReplay bound held c blocks replay → IfSome replay.last (λ s. Follows c s.circuit)
replay-follows bound held c blocks replay valid is = replay-from bound held c c blocks replay (record { circuit = valid; streams = (all_free c.aig, same_streams-reflexive c) }) is

-- and so if latches were merged first
pub merged-replay-follows : (bound : Option ℕ) (held : List ℕ) (c : Netlist) (lines : List MergedLatch) (blocks : List Certificate) (replay : Replay) → IsCircuit c → IsMergedReplay bound held c lines blocks replay
    → IfSome replay.last (λ s. Follows c s.circuit)
merged-replay-follows bound held c lines blocks replay valid is =
    let clean : Netlist = is.merges.clean in
    let now : List ℕ = is.start_held in
    let cleaned : Follows c clean = cleans-follows held c clean is.kept now valid is.merges.cleaned in
    let merged : Follows clean is.start = record {
      circuit = record {
        graph = IsGraph-merged_by now is.merges.reads clean is.start cleaned.circuit.graph is.merges.merged;
        netlist = IsNetlist-merged_by now is.merges.reads clean is.start cleaned.circuit.graph cleaned.circuit.netlist is.merges.merged;
      };
      streams = (all_free clean.aig, merged_by-streams now is.merges.reads clean is.start cleaned.circuit.graph cleaned.circuit.netlist is.merges.merged);
    } in
    replay-from bound now c is.start blocks replay (follows-then c clean is.start cleaned merged) is.of_start

-- where they follow they have the streams
streams-of : (c : Netlist) (last : Option Stage) → IfSome last (λ s. Follows c s.circuit) → IfSome last (λ s. HasStreamsOf c s.circuit)
streams-of c None follows = tt
streams-of c (Some s) follows = follows.streams

-- so what is replayed has the streams of the circuit
pub replay-streams : (bound : Option ℕ) (held : List ℕ) (c : Netlist) (blocks : List Certificate) → ReplayLaw bound held c blocks
replay-streams bound held c blocks replay graph netlist is = streams-of c replay.last (replay-follows bound held c blocks replay (record { graph = graph; netlist = netlist }) is)

-- with merging too
pub merged-replay-streams : (bound : Option ℕ) (held : List ℕ) (c : Netlist) (lines : List MergedLatch) (blocks : List Certificate) → MergedReplayLaw bound held c lines blocks
merged-replay-streams bound held c lines blocks replay graph netlist is = streams-of c replay.last (merged-replay-follows bound held c lines blocks replay (record { graph = graph; netlist = netlist }) is)
