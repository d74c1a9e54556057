use Rattle.std.proofs.Common.{◌≡◌, map, take}
use Rattle.gate_sharing.specs.Shared.{shared_gates}
use Rattle.gate_sharing.proofs.shared.SharedGates.graph.Given as goal

abbrev pub invariant-loop-shared : goal.invariant-loop-shared
invariant-loop-shared l = l.gates.items ≡ shared_gates (take l.shared-index l.shared-items)
