-- What `check` finds of two circuits and a map, and what is printed of it.
use Rattle.std.specs.Prelude.{ℕ, ◌≡◌, ◌≢◌, List, Option, Some, None}
use Rattle.aig_graph.specs.Circuits.{Netlist}
use Rattle.aig_graph.specs.Graph.{free_latches}
use Rattle.aig_graph.specs.Laws.{all_free}
use Rattle.aig_graph.specs.Streams.{AreKept, SameShape, SameStreams}
use Rattle.state_maps.specs.MapCircuits.{IsMapCircuit}
use Rattle.map_checks.specs.Answers.{AreFitting, IsMap}
use Rattle.reports.specs.Differences.{shapes_text}
use Rattle.counted_io.specs.Input.{Input}
use Rattle.counted_io.specs.Output.{Output}
use Rattle.counted_io.specs.declared.source.Source.{Source}
use Rattle.command_line.specs.declared.task.Checking.{Checking}
use Rattle.circuit_files.specs.declared.outcome.Outcome.{Outcome}
use Rattle.circuit_files.specs.declared.outcome.Outcome.TheVariants as ends
use Rattle.command_endings.specs.Printing.{EndsWith}
use Rattle.simulation_commands.specs.Keeping.{AreSharedAt}
use Rattle.simulation_commands.specs.Reading.{ArePair}
use Rattle.simulation_commands.specs.declared.kept.Shared.{Shared}
use Rattle.simulation_commands.specs.declared.kept.Shared.TheVariants.{Each, Kept}
use Rattle.simulation_commands.specs.declared.reading.Pair.{Pair}
use Rattle.map_commands.specs.Reading.{AreReadWithMap}
use Rattle.map_commands.specs.declared.given.Mapped.{Mapped}
use Rattle.map_commands.specs.Obligations.{equal_line, obligation_text, retiming_line}
use Rattle.map_commands.specs.declared.check.Verdict.{Verdict}
use Rattle.map_commands.specs.declared.check.Verdict.TheVariants.{Retiming, Equal, NotShown, Open, ShapesDiffer}

-- m maps the states of c to those of d, step for step, if these free latches of c are those of d.
-- So the properties of both have equal values at each step.
pub record IsRetimingBy (c d m : Netlist) : Type 0 where
  pub kept : List ℕ
  pub maps : IsMapCircuit c d kept m
  pub streams : SameStreams c d kept

-- what is found of two circuits and a map
abbrev pub IsVerdict : Netlist → Netlist → Netlist → Verdict → Type 0
IsVerdict c d m Retiming = IsRetimingBy c d m
IsVerdict c d m Equal = ⊥
IsVerdict c d m (NotShown obligation) = IsMap m × AreFitting c d m
IsVerdict c d m (Open obligation shown all) = ⊥
IsVerdict c d m ShapesDiffer = IsMap m × (SameShape c d → ⊥)

-- what is found of two circuits without a map, where these free latches of c are those of d
abbrev pub IsVerdictKept : Netlist → Netlist → List ℕ → Verdict → Type 0
IsVerdictKept c d kept Retiming = ⊥
IsVerdictKept c d kept Equal = SameStreams c d kept
IsVerdictKept c d kept (NotShown obligation) = ⊥
IsVerdictKept c d kept (Open obligation shown all) = SameShape c d
IsVerdictKept c d kept ShapesDiffer = SameShape c d → ⊥

-- these free latches of c may be those of d
abbrev pub MayShare : Shared → Netlist → Netlist → Type 0
MayShare Each c d = Unit {0}
MayShare (Kept kept) c d = AreKept c d kept

-- the same where d has these free latches of c, or each
abbrev pub IsPairVerdict : Shared → Netlist → Netlist → Verdict → Type 0
IsPairVerdict Each c d verdict = (free_latches d.aig ≡ free_latches c.aig → IsVerdictKept c d (all_free c.aig) verdict) × (free_latches d.aig ≢ free_latches c.aig → verdict ≡ ShapesDiffer)
IsPairVerdict (Kept kept) c d verdict = IsVerdictKept c d kept verdict

-- what is printed of it, and how the run ends
abbrev pub check_text : Verdict → List ℕ
check_text Retiming = retiming_line
check_text Equal = equal_line
check_text (NotShown obligation) = obligation_text obligation
check_text (Open obligation shown all) = obligation_text obligation
check_text ShapesDiffer = shapes_text

-- how a run ends by the verdict
abbrev pub outcome_of_check : Verdict → Outcome
outcome_of_check Retiming = ends.Done
outcome_of_check Equal = ends.Done
outcome_of_check (NotShown obligation) = ends.Unconfirmed
outcome_of_check (Open obligation shown all) = ends.Unconfirmed
outcome_of_check ShapesDiffer = ends.ShapesDiffer

-- what is found of the circuits and the map that are read in this order
pub record IsVerdictOf (first second map : Source) (before after : Input) (verdict : Verdict) : Type 0 where
  pub mapped : Mapped
  pub read : AreReadWithMap first second map before after mapped
  pub is : IsVerdict mapped.pair.first.circuit mapped.pair.second.circuit mapped.map.circuit verdict

-- what is found of two circuits, and of the list of kept free latches that is read if there is one
pub record IsPairVerdictUnder (c d : Netlist) (kept : Option Source) (before after : Input) (verdict : Verdict) : Type 0 where
  pub shared : Shared
  pub read : AreSharedAt kept c d before after shared
  pub is : IsPairVerdict shared c d verdict

-- what is found of the circuits that are read in this order, without a map
pub record IsPairVerdictOf (task : Checking) (before after : Input) (verdict : Verdict) : Type 0 where
  pub pair : Pair
  pub between : Input
  pub read : ArePair task.input task.retimed before between pair
  pub found : IsPairVerdictUnder pair.first.circuit pair.second.circuit task.kept between after verdict

-- what is found, by a map where there is one
abbrev pub IsFoundBy : Option Source → Checking → Input → Input → Verdict → Type 0
IsFoundBy None task before after verdict = IsPairVerdictOf task before after verdict
IsFoundBy (Some map) task before after verdict = IsVerdictOf task.input task.retimed map before after verdict

-- that was printed, and the run ends by it
pub record PrintsCheck (task : Checking) (before after : Input) (old new : Output) (ended : Outcome) : Type 0 where
  pub verdict : Verdict
  pub found : IsFoundBy task.map task before after verdict
  pub printed : EndsWith (outcome_of_check verdict) (check_text verdict) old new ended
