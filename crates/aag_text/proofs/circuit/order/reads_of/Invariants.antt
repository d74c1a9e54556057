use Rattle.std.proofs.Common.{◌≡◌, take, map, ◌≤◌, length, vec_capacity}
use Rattle.aag_text.specs.Arranging.{reads_of_gate}
use Rattle.aag_text.proofs.circuit.order.reads_of.Given as goal

abbrev pub invariant-loop-gate : goal.invariant-loop-gate
invariant-loop-gate l = record { room : length l.gates ≤ vec_capacity l.reads; filled : l.reads.items ≡ map (reads_of_gate l.first) (take l.gate-index l.gates) }
