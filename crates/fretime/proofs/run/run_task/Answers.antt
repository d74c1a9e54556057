use Rattle.std.proofs.Common.{Ok}
use Rattle.circuit_files.specs.WrittenFiles.{IsFileGiven}
use Rattle.fretime.proofs.RunLaws.{both, by_batch, by_command, by_task}
use Rattle.fretime.proofs.run.run_task.Goals as goal

pub returns-in-Retime-clause-does : goal.returns-in-Retime-clause-does
returns-in-Retime-clause-does g c =
    by_task (IsFileGiven g.R.Output.Write.contents g.R.OutputFiles.is_made g.R.OutputFiles.is_let_go) c.print_retimed.result _ _ _ _ _ _ _ _ c.in-Retime.is
    (both c.print_retimed.result _ _ c.print_retimed.ensures.frames c.print_retimed.ensures.pipe)

pub returns-in-Retime-clause-prints : goal.returns-in-Retime-clause-prints
returns-in-Retime-clause-prints g c = by_command c.print_retimed.result _ _ c.print_retimed.ensures.prints

pub returns-in-Move-clause-does : goal.returns-in-Move-clause-does
returns-in-Move-clause-does g c =
    by_task (IsFileGiven g.R.Output.Write.contents g.R.OutputFiles.is_made g.R.OutputFiles.is_let_go) c.print_moves.result _ _ _ _ _ _ _ _ c.in-Move.is
    c.print_moves.ensures.moves

pub returns-in-Move-clause-prints : goal.returns-in-Move-clause-prints
returns-in-Move-clause-prints g c = by_command c.print_moves.result _ _ c.print_moves.ensures.prints

pub returns-in-Batch-clause-does : goal.returns-in-Batch-clause-does
returns-in-Batch-clause-does g c =
    by_task (IsFileGiven g.R.Output.Write.contents g.R.OutputFiles.is_made g.R.OutputFiles.is_let_go) (Ok c.retime_list.result) _ _ _ _ _ _ _ _ c.in-Batch.is
    c.retime_list.ensures

pub returns-in-Batch-clause-prints : goal.returns-in-Batch-clause-prints
returns-in-Batch-clause-prints g c = by_batch c.in-Batch.batch.json c.retime_list.result _ _ c.retime_list.ensures

pub returns-in-Stat-clause-does : goal.returns-in-Stat-clause-does
returns-in-Stat-clause-does g c =
    by_task (IsFileGiven g.R.Output.Write.contents g.R.OutputFiles.is_made g.R.OutputFiles.is_let_go) c.print_statistics.result _ _ _ _ _ _ _ _ c.in-Stat.is
    c.print_statistics.ensures.statistics

pub returns-in-Stat-clause-prints : goal.returns-in-Stat-clause-prints
returns-in-Stat-clause-prints g c = by_command c.print_statistics.result _ _ c.print_statistics.ensures.prints

pub returns-in-Convert-clause-does : goal.returns-in-Convert-clause-does
returns-in-Convert-clause-does g c =
    by_task (IsFileGiven g.R.Output.Write.contents g.R.OutputFiles.is_made g.R.OutputFiles.is_let_go) c.convert.result _ _ _ _ _ _ _ _ c.in-Convert.is
    c.convert.ensures.converts

pub returns-in-Convert-clause-prints : goal.returns-in-Convert-clause-prints
returns-in-Convert-clause-prints g c = by_command c.convert.result _ _ c.convert.ensures.prints

pub returns-in-Sim-clause-does : goal.returns-in-Sim-clause-does
returns-in-Sim-clause-does g c =
    by_task (IsFileGiven g.R.Output.Write.contents g.R.OutputFiles.is_made g.R.OutputFiles.is_let_go) c.print_simulation.result _ _ _ _ _ _ _ _ c.in-Sim.is
    c.print_simulation.ensures.trace

pub returns-in-Sim-clause-prints : goal.returns-in-Sim-clause-prints
returns-in-Sim-clause-prints g c = by_command c.print_simulation.result _ _ c.print_simulation.ensures.prints

pub returns-in-Same-clause-does : goal.returns-in-Same-clause-does
returns-in-Same-clause-does g c =
    by_task (IsFileGiven g.R.Output.Write.contents g.R.OutputFiles.is_made g.R.OutputFiles.is_let_go) c.print_comparison.result _ _ _ _ _ _ _ _ c.in-Same.is
    c.print_comparison.ensures.finding

pub returns-in-Same-clause-prints : goal.returns-in-Same-clause-prints
returns-in-Same-clause-prints g c = by_command c.print_comparison.result _ _ c.print_comparison.ensures.prints

pub returns-in-Verify-clause-does : goal.returns-in-Verify-clause-does
returns-in-Verify-clause-does g c =
    by_task (IsFileGiven g.R.Output.Write.contents g.R.OutputFiles.is_made g.R.OutputFiles.is_let_go) c.verify.result _ _ _ _ _ _ _ _ c.in-Verify.is
    c.verify.ensures.audit

pub returns-in-Verify-clause-prints : goal.returns-in-Verify-clause-prints
returns-in-Verify-clause-prints g c = by_command c.verify.result _ _ c.verify.ensures.prints

pub returns-in-Check-clause-does : goal.returns-in-Check-clause-does
returns-in-Check-clause-does g c =
    by_task (IsFileGiven g.R.Output.Write.contents g.R.OutputFiles.is_made g.R.OutputFiles.is_let_go) c.check.result _ _ _ _ _ _ _ _ c.in-Check.is
    c.check.ensures.check

pub returns-in-Check-clause-prints : goal.returns-in-Check-clause-prints
returns-in-Check-clause-prints g c = by_command c.check.result _ _ c.check.ensures.prints

pub returns-in-Miter-clause-does : goal.returns-in-Miter-clause-does
returns-in-Miter-clause-does g c =
    by_task (IsFileGiven g.R.Output.Write.contents g.R.OutputFiles.is_made g.R.OutputFiles.is_let_go) c.write_miter.result _ _ _ _ _ _ _ _ c.in-Miter.is
    c.write_miter.ensures.miter

pub returns-in-Miter-clause-prints : goal.returns-in-Miter-clause-prints
returns-in-Miter-clause-prints g c = by_command c.write_miter.result _ _ c.write_miter.ensures.prints

pub returns-in-Product-clause-does : goal.returns-in-Product-clause-does
returns-in-Product-clause-does g c =
    by_task (IsFileGiven g.R.Output.Write.contents g.R.OutputFiles.is_made g.R.OutputFiles.is_let_go) c.write_miter-in-Product.result _ _ _ _ _ _ _ _ c.in-Product.is
    c.write_miter-in-Product.ensures.miter

pub returns-in-Product-clause-prints : goal.returns-in-Product-clause-prints
returns-in-Product-clause-prints g c = by_command c.write_miter-in-Product.result _ _ c.write_miter-in-Product.ensures.prints

pub returns-in-Lift-clause-does : goal.returns-in-Lift-clause-does
returns-in-Lift-clause-does g c =
    by_task (IsFileGiven g.R.Output.Write.contents g.R.OutputFiles.is_made g.R.OutputFiles.is_let_go) c.write_lifted.result _ _ _ _ _ _ _ _ c.in-Lift.is
    c.write_lifted.ensures.lift

pub returns-in-Lift-clause-prints : goal.returns-in-Lift-clause-prints
returns-in-Lift-clause-prints g c = by_command c.write_lifted.result _ _ c.write_lifted.ensures.prints

pub returns-in-Dot-clause-does : goal.returns-in-Dot-clause-does
returns-in-Dot-clause-does g c =
    by_task (IsFileGiven g.R.Output.Write.contents g.R.OutputFiles.is_made g.R.OutputFiles.is_let_go) c.write_picture.result _ _ _ _ _ _ _ _ c.in-Dot.is
    c.write_picture.ensures.picture

pub returns-in-Dot-clause-prints : goal.returns-in-Dot-clause-prints
returns-in-Dot-clause-prints g c = by_command c.write_picture.result _ _ c.write_picture.ensures.prints

pub returns-in-Witness-clause-does : goal.returns-in-Witness-clause-does
returns-in-Witness-clause-does g c =
    by_task (IsFileGiven g.R.Output.Write.contents g.R.OutputFiles.is_made g.R.OutputFiles.is_let_go) c.print_witness_back.result _ _ _ _ _ _ _ _ c.in-Witness.is
    c.print_witness_back.ensures.verdict

pub returns-in-Witness-clause-prints : goal.returns-in-Witness-clause-prints
returns-in-Witness-clause-prints g c = by_command c.print_witness_back.result _ _ c.print_witness_back.ensures.prints

pub returns-in-Explain-clause-does : goal.returns-in-Explain-clause-does
returns-in-Explain-clause-does g c =
    by_task (IsFileGiven g.R.Output.Write.contents g.R.OutputFiles.is_made g.R.OutputFiles.is_let_go) c.explain.result _ _ _ _ _ _ _ _ c.in-Explain.is
    c.explain.ensures.page

pub returns-in-Explain-clause-prints : goal.returns-in-Explain-clause-prints
returns-in-Explain-clause-prints g c = by_command c.explain.result _ _ c.explain.ensures.prints
