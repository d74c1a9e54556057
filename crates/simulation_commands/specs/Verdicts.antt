-- The verdict on a witness that is carried back, and what is printed of it.
use Rattle.std.specs.Prelude.{ℕ, ◌≡◌, ◌≢◌, ◌⊎◌, ◌==◌, ◌&&◌, ◌^◌, Bool, true, false, List, [], length, Option, Some, None, MatchOption, Ok, Err, if◌then◌else◌}
use Rattle.aig_graph.specs.Circuits.{Netlist}
use Rattle.aig_graph.specs.Graph.{free_latches}
use Rattle.aig_graph.specs.Laws.{all_free}
use Rattle.aig_binary.specs.declared.reading.SpeltCircuit.{SpeltCircuit}
use Rattle.aig_graph.specs.declared.choice.Choice.TheVariants.{Greatest}
use Rattle.frame_runs.specs.declared.bound.PathBound.TheVariants as bounds
use Rattle.frame_runs.specs.declared.options.Options.{Options}
use Rattle.frame_runs.specs.Named.{names_in}
use Rattle.merging_rounds.specs.Following.{AreRoundsOf}
use Rattle.merging_rounds.specs.declared.rounds.Rounds.{Rounds}
use Rattle.reports.specs.Differences.{shapes_text}
use Rattle.witnesses.specs.Circuits.{widths_of}
use Rattle.witnesses.specs.Confirming.{IsConfirmedBack}
use Rattle.witnesses.specs.Texts.{objection_text, whole_text}
use Rattle.witnesses.specs.declared.witness.Witness.{Witness}
use Rattle.counted_io.specs.Input.{Input}
use Rattle.counted_io.specs.Output.{Output}
use Rattle.command_line.specs.declared.task.Carrying.{Carrying}
use Rattle.circuit_files.specs.declared.outcome.Outcome.{Outcome}
use Rattle.circuit_files.specs.declared.outcome.Outcome.TheVariants as ends
use Rattle.command_endings.specs.Printing.{EndsWith}
use Rattle.command_endings.specs.Sources.{IsCircuitAt, IsWitnessAt}
use Rattle.simulation_commands.specs.declared.witness.Case.{Case}
use Rattle.simulation_commands.specs.declared.witness.Verdict.{Verdict}
use Rattle.simulation_commands.specs.declared.witness.Verdict.TheVariants.{Confirmed, Objected, ShapesDiffer}

-- whether the circuits have as many properties and inputs
abbrev pub have_same_widths : Netlist → Netlist → Bool
have_same_widths c d =
    ((((widths_of c).bad == (widths_of d).bad) && ((widths_of c).justice == (widths_of d).justice)) && ((widths_of c).inputs == (widths_of d).inputs))
    && (length d.props.constraints == length c.props.constraints)

-- the places, if they are as many as the free latches
abbrev pub if_many : ℕ → List ℕ → ℕ → Option (List ℕ)
if_many left places free = if left == free then Some places else None

-- The options of a retiming that takes at most so many frames, each over the greatest least set. It
-- holds no latch, has no bound on paths, and guesses which latches agree if it merges some.
pub record AreFrameOptions (merge : Bool) (limit : ℕ) (options : Options) : Type 0 where
  pub frames : options.max_frames ≡ limit
  pub merges : options.merge ≡ merge
  pub names : names_in options ≡ []
  pub positions : options.keep_latches.items ≡ []
  pub choice : options.choice ≡ Greatest
  pub guessed : options.classes ≡ None
  pub unbounded : options.bound ≡ bounds.None

-- the places of the free latches that at most so many frames leave of c, if these are `free`
pub record AreLeftAfter (merge : Bool) (limit : ℕ) (c : Netlist) (free : ℕ) (places : Option (List ℕ)) : Type 0 where
  pub options : Options
  pub are_options : AreFrameOptions merge limit options
  pub rounds : Rounds
  pub now : List ℕ
  pub is : AreRoundsOf options c rounds now
  pub are : places ≡ if_many (free_latches rounds.circuit.aig) rounds.kept_free free

-- those that are left before the first frame, and else those that all frames leave
pub record AreLeft (merge : Bool) (c : Netlist) (free : ℕ) (places : Option (List ℕ)) : Type 0 where
  pub first : Option (List ℕ)
  pub are_first : AreLeftAfter merge 0 c free first
  pub are : MatchOption first (AreLeftAfter merge (2 ^ 28) c free places) (λ kept. places ≡ Some kept)

-- The places of d's free latches among c's. They are all if the numbers are equal. Otherwise they
-- are those that a retiming of c leaves, before its first frame or at its end.
abbrev pub AreKept : Bool → Netlist → Netlist → Option (List ℕ) → Type 0
AreKept merge c d places =
    ((free_latches c.aig ≡ free_latches d.aig) × (places ≡ Some (all_free c.aig)))
    ⊎ ((free_latches c.aig ≢ free_latches d.aig) × AreLeft merge c (free_latches d.aig) places)

-- if these free latches were kept
abbrev pub IsJudged : Netlist → Netlist → List ℕ → Witness → Verdict → Type 0
IsJudged c d kept w (Confirmed confirmed) = IsConfirmedBack c d kept w (Ok confirmed)
IsJudged c d kept w (Objected objection) = IsConfirmedBack c d kept w (Err objection)
IsJudged c d kept w ShapesDiffer = ⊥

-- the circuits have the widths of a retiming, and the witness is judged by the free latches that
-- were kept
pub record IsJudgedBy (merge : Bool) (c d : Netlist) (w : Witness) (verdict : Verdict) : Type 0 where
  pub widths : have_same_widths c d ≡ true
  pub kept : List ℕ
  pub are : AreKept merge c d (Some kept)
  pub judged : IsJudged c d kept w verdict

-- the verdict on a witness of d; the circuits aren't those of a retiming if their widths differ or
-- no free latches were kept
abbrev pub IsVerdict : Bool → Netlist → Netlist → Witness → Verdict → Type 0
IsVerdict merge c d w ShapesDiffer = (have_same_widths c d ≡ false) ⊎ AreKept merge c d None
IsVerdict merge c d w verdict = IsJudgedBy merge c d w verdict

-- what is read, in this order: a circuit, the one that it was retimed to, and a witness for that
-- one
pub record IsCaseOf (task : Carrying) (before after : Input) (given : Case) : Type 0 where
  pub first : SpeltCircuit
  pub second : SpeltCircuit
  pub after_first : Input
  pub after_second : Input
  pub read_first : IsCircuitAt task.input before after_first first
  pub read_second : IsCircuitAt task.retimed after_first after_second second
  pub read_witness : IsWitnessAt task.witness given.retimed after_second after given.witness
  pub circuit : given.circuit ≡ first.circuit
  pub retimed : given.retimed ≡ second.circuit

-- what is printed of a verdict
abbrev pub verdict_text : Verdict → List ℕ
verdict_text (Confirmed confirmed) = whole_text confirmed.witness confirmed.reached
verdict_text (Objected objection) = objection_text objection
verdict_text ShapesDiffer = shapes_text

-- how a run ends by the verdict
abbrev pub outcome_of_verdict : Verdict → Outcome
outcome_of_verdict (Confirmed confirmed) = ends.Done
outcome_of_verdict (Objected objection) = ends.Unconfirmed
outcome_of_verdict ShapesDiffer = ends.ShapesDiffer

-- the verdict on the witness that is read was printed, and the run ends by it
pub record PrintsVerdict (task : Carrying) (before after : Input) (old new : Output) (ended : Outcome) : Type 0 where
  pub given : Case
  pub read : IsCaseOf task before after given
  pub verdict : Verdict
  pub is : IsVerdict task.merge given.circuit given.retimed given.witness verdict
  pub printed : EndsWith (outcome_of_verdict verdict) (verdict_text verdict) old new ended
