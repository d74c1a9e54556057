use Rattle.std.proofs.Common.{◌≡◌, ℕ, ◌<◌, get_or, false}
use Rattle.circuit_files.specs.declared.pages.named_fault.Fault.TheVariants.{BadHeader}
use Rattle.circuit_files.specs.pages.Faults.{has_name}
use Rattle.circuit_files.proofs.pages.named_fault.named_among.Given as goal

abbrev pub invariant-loop-fault : goal.invariant-loop-fault
invariant-loop-fault l = (k : ℕ) → k < l.fault-index → has_name l.name (get_or l.faults k BadHeader) ≡ false
