use Rattle.std.proofs.Common.{◌≡◌, map, take}
use Rattle.circuit_files.specs.pages.Faults.{name_of}
use Rattle.circuit_files.specs.pages.Nearest.{edits}
use Rattle.circuit_files.proofs.pages.near_faults.edits_to_faults.Given as goal

abbrev pub invariant-loop-fault : goal.invariant-loop-fault
invariant-loop-fault l = l.counts.items ≡ map (λ fault. edits l.name (name_of fault)) (take l.fault-index l.faults)
