-- What a circuit is retimed to stays within the limits of a header.
use Rattle.std.specs.Prelude.{ℕ, Bool, Option}
use Rattle.aig_graph.specs.Circuits.{Netlist}
use Rattle.aig_graph.specs.Keep.{Holding}
use Rattle.ascii_file.specs.Laws.{IsWithinLimits}
use Rattle.aig_graph.specs.declared.choice.Choice.{Choice}
use Rattle.retimed_circuits.specs.declared.report.Retimed.{Retimed}
use Rattle.retimed_circuits.specs.Retiming.{IsRetimedWith}

-- what a circuit within the limits of a header is retimed to is within them
abbrev pub StaysWithin : Bool → Option ℕ → Choice → Netlist → Holding → ℕ → Bool → Type 0
StaysWithin merge bound choice c holding max_frames certify = (r : Retimed) → IsRetimedWith merge bound choice c holding max_frames certify r → IsWithinLimits c → IsWithinLimits r.circuit
