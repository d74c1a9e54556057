-- What is lifted back, of circuits and a map that fit together.
use Rattle.std.proofs.Common.{ℕ, ◌≡◌, List, IfOk, Result, arith}
use Rattle.std.proofs.lemmas.Result.{IfOk-weaker}
use Rattle.aig_graph.specs.Circuits.{IsNetlist, Netlist}
use Rattle.aig_graph.specs.Graph.{IsGraph, free_latches}
use Rattle.witness_circuits.specs.declared.sharing.Sharing.{Sharing}
use Rattle.witness_circuits.specs.Witnesses.{IsSharing}
use Rattle.witness_circuits.specs.Naming.{IsSharedBy}
use Rattle.map_miters.specs.Lifting.{IsLiftedBack, LiftsBack}
use Rattle.map_miters.specs.Turned.{IsTurnable}
use Rattle.map_checks.specs.Answers.{AreFitting, IsMap}
use Rattle.circuit_files.specs.declared.outcome.Failure.{Failure}
use Rattle.map_commands.specs.Lifted.{IsBackLiftOf, IsLiftedBackBy}

-- a map that fits the second circuit and the first can be turned round
pub turnable : (c d m : Netlist) → IsMap m → AreFitting d c m → IsTurnable c d m
turnable c d m is fits = record {
  inputs = omega (arith, fits.shape.inputs);
  map_inputs = fits.inputs;
  map_latches = is.latches;
  map_outputs = fits.outputs;
}

-- what is lifted back is a witness circuit for the first where it was one for the second
pub lifted-back-by : (c d m w : Netlist) (k : Sharing) (r : Netlist) → ((kept : List ℕ) → LiftsBack c d kept m w k r) → IsGraph c.aig → IsNetlist c → IsGraph d.aig → free_latches c.aig ≡ 0
    → IsSharing d w k → IsLiftedBack c d m w k r → IsLiftedBackBy c d m w k r
lifted-back-by c d m w k r law graph netlist second none shares lifted = record {
  lifted = lifted;
  shows = λ kept maps passes. law kept graph netlist second none maps shares passes lifted;
}

-- so for what the names of the witness say
pub lifted-back-of : (c d m w : Netlist) (k : Sharing) (result : Result Netlist Failure) → IsSharedBy d w k → IfOk result (IsLiftedBackBy c d m w k) → IfOk result (IsBackLiftOf c d m w)
lifted-back-of c d m w k result shared by = IfOk-weaker result _ _ (λ r is. record { sharing = k; shared = shared; lifted = is }) by
