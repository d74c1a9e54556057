-- What is lifted, of circuits and a map that fit together.
use Rattle.std.proofs.Common.{ℕ, ◌≡◌, List, IfOk, Result, arith, subst, unwrap_or}
use Rattle.std.proofs.lemmas.Result.{IfOk-weaker}
use Rattle.aig_graph.specs.Circuits.{IsNetlist, Netlist}
use Rattle.aig_graph.specs.Graph.{IsGraph}
use Rattle.witness_circuits.specs.declared.sharing.Sharing.{Sharing}
use Rattle.witness_circuits.specs.Witnesses.{IsSharing}
use Rattle.witness_circuits.specs.Naming.{IsSharedBy}
use Rattle.witness_circuits.specs.LiftedLaws.{LiftsWitnesses}
use Rattle.witness_circuits.specs.Lifting.{IsLifted}
use Rattle.witness_circuits.specs.Parts.{IsLiftable}
use Rattle.map_checks.specs.Answers.{AreFitting, IsMap}
use Rattle.file_words.specs.declared.spelling.Spelling.{Spelling}
use Rattle.counted_io.specs.Input.{Input}
use Rattle.counted_io.specs.Output.{Output}
use Rattle.command_line.specs.declared.task.Lifting.{Lifting}
use Rattle.circuit_files.specs.declared.outcome.Outcome.{Outcome}
use Rattle.circuit_files.specs.declared.outcome.Failure.{Failure}
use Rattle.map_commands.specs.declared.given.Given.{Given}
use Rattle.map_commands.specs.declared.made.Made.{Made}
use Rattle.map_commands.specs.Making.{EndsMaking}
use Rattle.map_commands.specs.Lifted.{AreGiven, IsLiftedBy, IsLiftedOf, IsLiftOf, PrintsLift}

-- where the map fits both circuits and the witness shares with the second, it can be lifted
pub liftable : (c d m w : Netlist) (k : Sharing) → IsMap m → AreFitting c d m → IsSharing d w k → IsLiftable c m w k
liftable c d m w k is fits shares = record {
  map_inputs = fits.inputs;
  map_latches = is.latches;
  shares = record {
    inputs = shares.inputs;
    latches = shares.latches;
    inputs_below = λ i place e. omega (arith, shares.inputs_below i place e, fits.shape.inputs);
    latches_below = λ j place e. omega (arith, shares.latches_below j place e, fits.outputs);
  };
}

-- what is lifted is a witness circuit for the first where it was one for the second
pub lifted-by : (c d m w : Netlist) (k : Sharing) (r : Netlist) → ((kept : List ℕ) → LiftsWitnesses c d kept m w k r) → IsGraph c.aig → IsNetlist c → IsGraph r.aig → IsSharing d w k
    → IsLifted c m w k r → IsLiftedBy c d m w k r
lifted-by c d m w k r law graph netlist lifted_graph shares lifted = record {
  lifted = lifted;
  shows = λ kept maps passes. law kept graph netlist lifted_graph maps shares passes lifted;
}

-- so for what the names of the witness say
pub lifted-of : (c d m w : Netlist) (k : Sharing) (result : Result Netlist Failure) → IsSharedBy d w k → IfOk result (IsLiftedBy c d m w k) → IfOk result (IsLiftOf c d m w)
lifted-of c d m w k result shared by = IfOk-weaker result _ _ (λ r is. record { sharing = k; shared = shared; lifted = is }) by

-- what is made of what was read is written, in the spelling that is chosen
pub prints-lift : {before after : Input} (FileGiven : List ℕ → List ℕ → Type 0) (old new : Output) (task : Lifting) (given : Given) (lifted : Made) (spelling : Spelling) (result : Result Outcome Failure)
    → AreGiven task before after given → IsLiftedOf task.back given lifted → spelling ≡ unwrap_or task.spelling given.witness.spelling
    → IfOk result (EndsMaking FileGiven lifted spelling task.output old new) → IfOk result (PrintsLift FileGiven task before after old new)
prints-lift {before} {after} FileGiven old new task given lifted spelling result read is chosen printed =
    let P : Spelling → Type 0 = λ s. IfOk result (EndsMaking FileGiven lifted s task.output old new) in
    IfOk-weaker result _ _ (λ ended ends. record { given = given; read = read; lifted = lifted; is = is; printed = ends }) (subst P chosen printed)
