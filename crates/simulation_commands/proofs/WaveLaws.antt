-- What is printed of a trace and of waves, by how the run ends.
use Rattle.std.proofs.Common.{ℕ, ◌≡◌, true, false, List, Some, IfOk, OnOk, Result, Ok, Err, refl, sym, subst}
use Rattle.aig_graph.specs.Circuits.{Netlist}
use Rattle.aig_binary.specs.declared.reading.SpeltCircuit.{SpeltCircuit}
use Rattle.counted_io.specs.Input.{Input}
use Rattle.counted_io.specs.Output.{Output, WritesAll}
use Rattle.counted_io.proofs.OutputLaws.{all-then}
use Rattle.counted_io.specs.Streams.{is_stdout}
use Rattle.counted_io.specs.declared.target.Target.{Target}
use Rattle.counted_io.specs.declared.target.Target.TheVariants as targets
use Rattle.command_line.specs.declared.task.Simulation.{Simulation}
use Rattle.circuit_files.specs.WrittenFiles.{IsTargetGiven}
use Rattle.circuit_files.specs.declared.outcome.Outcome.{Outcome}
use Rattle.circuit_files.specs.declared.outcome.Outcome.TheVariants.{Done}
use Rattle.circuit_files.specs.declared.outcome.Failure.{Failure}
use Rattle.command_endings.specs.Printing.{EndsPrinting, EndsWith, Prints, ending}
use Rattle.command_endings.specs.Sources.{IsCircuitAt}
use Rattle.command_endings.proofs.PrintingLaws.{of_device}
use Rattle.simulation_commands.specs.Dumping.{dump_of}
use Rattle.simulation_commands.specs.Simulating.{IsCaseOf, IsCaseWith, IsDumped, PrintsTrace, case_text, printed}
use Rattle.simulation_commands.specs.declared.simulation.Case.{Case}

-- the lines come after the dump, if that went to standard output, and else alone
pub lines_after_dump : (target : Target) (dump lines : List ℕ) (old mid new : Output) (result : Result Outcome Failure)
    → (is_stdout target ≡ true → WritesAll old mid dump) → (is_stdout target ≡ false → mid ≡ old)
    → EndsPrinting Done lines mid new result → IfOk result (EndsWith Done (printed (Some target) dump lines) old new)
lines_after_dump targets.Stdout dump lines old mid new (Ok ended) goes stays p = record { ends = p.0; prints = all-then old mid new dump lines (goes refl) p.1 }
lines_after_dump (targets.File path) dump lines old mid new (Ok ended) goes stays p =
    record { ends = p.0; prints = subst (λ (s : Output). WritesAll s new lines) (stays refl) p.1 }
lines_after_dump targets.Stdout dump lines old mid new (Err failure) goes stays p = tt
lines_after_dump (targets.File path) dump lines old mid new (Err failure) goes stays p = tt

-- whatever was printed before them
pub lines_print_after : (lines : List ℕ) (old mid new : Output) (result : Result Outcome Failure) → EndsPrinting Done lines mid new result → Prints (ending result) old new
lines_print_after lines old mid new (Ok ended) p = subst (λ (e : Outcome). Prints e old new) (sym p.0) tt
lines_print_after lines old mid new (Err failure) p = of_device failure old new p.0

-- the file of a target was given the dump
pub dumped_to : (FileGiven : List ℕ → List ℕ → Type 0) (target : Target) (dump : List ℕ) (old mid : Output) (result : Result Outcome Failure)
    → IsTargetGiven FileGiven target old mid dump → OnOk result (IsDumped FileGiven (Some target) dump)
dumped_to FileGiven targets.Stdout dump old mid (Ok ended) given = tt
dumped_to FileGiven (targets.File path) dump old mid (Ok ended) given = given.1
dumped_to FileGiven target dump old mid (Err failure) given = tt

-- of what is read, that is what was printed
pub prints_trace : (FileGiven : List ℕ → List ℕ → Type 0) (task : Simulation) (given : Case) (before after : Input) (old new : Output) (result : Result Outcome Failure)
    → IsCaseOf task before after given → OnOk result (IsDumped FileGiven task.waves (dump_of given)) → IfOk result (EndsWith Done (printed task.waves (dump_of given) (case_text given)) old new)
    → IfOk result (PrintsTrace FileGiven task before after old new)
prints_trace FileGiven task given before after old new (Ok ended) is dumped prints = record { given = given; is = is; dumped = dumped; prints = prints }
prints_trace FileGiven task given before after old new (Err failure) is dumped prints = tt

-- a circuit that was read, and what it is simulated under
pub case_of : (c : Netlist) (task : Simulation) (spelt : SpeltCircuit) (before between after : Input) (result : Result Case Failure)
    → c ≡ spelt.circuit → IsCircuitAt task.input before between spelt → IfOk result (IsCaseWith c task.stimuli between after) → IfOk result (IsCaseOf task before after)
case_of c task spelt before between after (Ok given) is read with =
    record { spelt = spelt; between = between; read = read; is = subst (λ (n : Netlist). IsCaseWith n task.stimuli between after given) is with }
case_of c task spelt before between after (Err failure) is read with = tt
