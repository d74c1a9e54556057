-- A run that is added to the report of rounds.
use Rattle.std.specs.Prelude.{◌≡◌, [], ◌∷◌, ◌++◌}
use Rattle.aig_graph.specs.Laws.{composed}
use Rattle.retimed_circuits.specs.declared.report.Retimed.{Retimed}
use Rattle.merging_rounds.specs.Rounds.{part_of}
use Rattle.merging_rounds.specs.declared.joining.Report.{Report}
use Rattle.merging_rounds.specs.declared.rounds.Rounds.{Rounds}

-- the run's circuit, and its frames, its part and its places of free latches after those before
pub record IsJoined (report : Report) (run : Retimed) (r : Rounds) : Type 0 where
  pub circuit : r.circuit ≡ run.circuit
  pub kept_free : r.kept_free ≡ composed report.kept_free run.kept_free
  pub read_latches : r.read_latches ≡ report.read_latches
  pub frames : r.frames ≡ report.frames ++ run.frames
  pub parts : r.parts ≡ report.parts ++ part_of run ∷ []
