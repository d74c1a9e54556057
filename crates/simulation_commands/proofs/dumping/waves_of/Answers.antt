use Rattle.std.proofs.Common.{inl}
use Rattle.simulation_commands.proofs.dumping.waves_of.Goals as goal

pub returns-in-Ok-shown_of-clause-waves : goal.returns-in-Ok-shown_of-clause-waves
returns-in-Ok-shown_of-clause-waves c = record { names = c.in-Ok.ensures; shown = c.in-Ok-shown_of.ensures.shown }

pub returns-in-Err-shown_of-clause-failed : goal.returns-in-Err-shown_of-clause-failed
returns-in-Err-shown_of-clause-failed c = c.in-Err-shown_of.ensures.failed

pub returns-in-Err-clause-failed : goal.returns-in-Err-clause-failed
returns-in-Err-clause-failed c = inl c.in-Err.ensures
