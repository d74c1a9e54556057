-- The verdict on a witness, and what is printed of it.
use Rattle.std.proofs.Common.{◌≡◌, ◌≢◌, Bool, true, Option, Some, List, ℕ, inl, inr, Result, Ok, Err, IfOk, subst}
use Rattle.aig_graph.specs.Graph.{free_latches}
use Rattle.aig_graph.specs.Circuits.{Netlist}
use Rattle.counted_io.specs.Output.{Output, WritesAll}
use Rattle.witnesses.specs.declared.witness.Witness.{Witness}
use Rattle.circuit_files.specs.declared.outcome.Outcome.{Outcome}
use Rattle.circuit_files.specs.declared.outcome.Failure.{Failure}
use Rattle.simulation_commands.specs.Verdicts.{AreKept, AreLeft, IsVerdict, IsJudged, verdict_text, have_same_widths, outcome_of_verdict}
use Rattle.command_endings.specs.Printing.{EndsPrinting, Prints, ending}
use Rattle.simulation_commands.specs.declared.witness.Verdict.{Verdict}
use Rattle.simulation_commands.specs.declared.witness.Verdict.TheVariants.{Confirmed, Objected, ShapesDiffer}
use Rattle.command_endings.proofs.PrintingLaws.{lines_print}

-- if the circuits don't have as many free latches
pub left_kept : {E : Type 0} (merge : Bool) (c d : Netlist) (free : ℕ) (r : Result (Option (List ℕ)) E) → free ≡ free_latches d.aig → free_latches c.aig ≢ free_latches d.aig
    → IfOk r (AreLeft merge c free) → IfOk r (AreKept merge c d)
left_kept merge c d free (Ok places) is apart left = let P : ℕ → Type 0 = λ n. AreLeft merge c n places in inr (apart, subst P is left)
left_kept merge c d free (Err error) is apart left = tt

-- by the free latches that were kept
pub verdict_by : (merge : Bool) (c d : Netlist) (kept : List ℕ) (w : Witness) (verdict : Verdict)
    → have_same_widths c d ≡ true → AreKept merge c d (Some kept) → IsJudged c d kept w verdict → IsVerdict merge c d w verdict
verdict_by merge c d kept w (Confirmed confirmed) widths are judged = record { widths = widths; kept = kept; are = are; judged = judged }
verdict_by merge c d kept w (Objected objection) widths are judged = record { widths = widths; kept = kept; are = are; judged = judged }
verdict_by merge c d kept w ShapesDiffer widths are judged = absurd judged

verdict_may_be_printed : (verdict : Verdict) (old new : Output) → WritesAll old new (verdict_text verdict) → Prints (outcome_of_verdict verdict) old new
verdict_may_be_printed (Confirmed confirmed) old new written = tt
verdict_may_be_printed (Objected objection) old new written = tt
verdict_may_be_printed ShapesDiffer old new written = inl written

-- so much of its text may have been printed
pub verdict_prints : (verdict : Verdict) (old new : Output) (result : Result Outcome Failure)
    → EndsPrinting (outcome_of_verdict verdict) (verdict_text verdict) old new result → Prints (ending result) old new
verdict_prints verdict old new result p = lines_print (outcome_of_verdict verdict) (verdict_text verdict) old new result (verdict_may_be_printed verdict old new) p
