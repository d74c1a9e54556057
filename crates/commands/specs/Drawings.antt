-- What a picture shows.
use Rattle.std.specs.Prelude.{ℕ, ⊤, ◌≡◌, ◌<◌, ◌≤◌, ◌+◌, Bool, true, false, List, length, Option, Some, None, option_map}
use Rattle.std.specs.Borrow.{Bor}
use Rattle.aig_graph.specs.Graph.{variables_end}
use Rattle.aig_graph.specs.Circuits.{Netlist}
use Rattle.aig_graph.specs.Laws.{all_free}
use Rattle.aig_binary.specs.declared.reading.SpeltCircuit.{SpeltCircuit}
use Rattle.counted_io.specs.Input.{Input}
use Rattle.counted_io.specs.Output.{Output}
use Rattle.counted_io.specs.declared.source.Source.{Source}
use Rattle.circuit_files.specs.WrittenFiles.{IsTargetGiven}
use Rattle.circuit_files.specs.declared.outcome.Failure.{Failure}
use Rattle.circuit_files.specs.declared.outcome.Failure.TheVariants as fails
use Rattle.circuit_files.specs.declared.outcome.Outcome.{Outcome}
use Rattle.circuit_files.specs.declared.outcome.Outcome.TheVariants.{Done}
use Rattle.frame_runs.specs.Beginning.{IsRunBegun}
use Rattle.frame_runs.specs.Retiming.{IsNextSet}
use Rattle.frame_runs.specs.declared.follower.NoFollower.{NoFollower}
use Rattle.frame_runs.specs.declared.options.Options.{Options}
use Rattle.frame_runs.specs.declared.run.Run.{Run}
use Rattle.retimed_circuits.specs.declared.report.Retimed.{Retimed}
use Rattle.pictures.specs.Looks.{everything}
use Rattle.pictures.specs.Near.{has_node, is_centre, is_near}
use Rattle.pictures.specs.Pictures.{picture}
use Rattle.command_line.specs.declared.task.Drawing.{Drawing}
use Rattle.command_endings.specs.HeldNames.{OfSource, held_by}
use Rattle.command_endings.specs.RunOptions.{AreOptionsOf}
use Rattle.command_endings.specs.Sources.{IsCircuitAt}
use Rattle.commands.specs.declared.scene.Scene.{Scene}

-- the neighbourhood of what the name names, or all variables
abbrev pub shown : Netlist → Drawing → ℕ → Bool
shown c task = elim task.around [ None ↦ everything | Some name ↦ is_near c name.now task.depth ]

-- what is in the middle of the neighbourhood, if one is asked for
abbrev pub middle : Netlist → Drawing → Option (ℕ → Bool)
middle c task = option_map (λ name. is_centre c name.now) task.around

-- the nodes of a picture of all of a circuit: its variables and its properties
abbrev pub nodes : Netlist → ℕ
nodes c = variables_end c.aig + length c.props.outputs + length c.props.bad + length c.props.constraints + length c.props.justice + length c.props.fairness

-- A circuit can be drawn around what has this name, or what a picture calls so. If no name is given
-- it is drawn as a whole, if that has no more than 2000 nodes.
abbrev pub CanBeDrawn : Option (Bor (List ℕ)) → Netlist → Type 0
CanBeDrawn (Some name) c = has_node c name.now ≡ true
CanBeDrawn None c = nodes c ≤ 2000

-- why it can't
abbrev pub IsRefusal : Option (Bor (List ℕ)) → Netlist → Source → Failure → Type 0
IsRefusal (Some name) c input failure = (has_node c name.now ≡ false) × OfSource input (λ path. failure ≡ fails.NoSuchName path name)
IsRefusal None c input failure = (2000 < nodes c) × OfSource input (λ path. failure ≡ fails.TooManyNodes path)

-- nothing follows a run, so its follower has come from any circuit to any
abbrev pub comes_anyhow : NoFollower → Netlist → Netlist → List ℕ → Type 0
comes_anyhow follower c d kept = ⊤

-- the run of c by the options before its first frame, under the bound for c
abbrev pub IsRunBy : Options → Netlist → Run Retimed NoFollower → Type 0
IsRunBy options c run = IsRunBegun comes_anyhow options c (all_free c.aig) c run

-- what a run came to, its held latches, and the set that its next frame takes
pub record IsShownOf (options : Options) (run : Run Retimed NoFollower) (scene : Scene) : Type 0 where
  pub circuit : scene.circuit ≡ run.retimed.circuit
  pub keep : scene.keep ≡ run.keep
  pub set : IsNextSet options run.bound run.keep run.retimed.circuit scene.set

-- c cleaned, and merged if the task asks for it, as before the first frame, with its held latches.
-- Also the set over which that frame moves latches, under the bound that the task names, if one
-- makes fewer.
pub record IsNextShown (task : Drawing) (c : Netlist) (scene : Scene) : Type 0 where
  pub options : Options
  pub are : AreOptionsOf task.options 0 false options
  pub run : Run Retimed NoFollower
  pub is : IsRunBy options c run
  pub shown : IsShownOf options run scene

-- What is shown of c: itself with the latches that the task holds. If the next frame is asked for,
-- it is what that frame begins with.
abbrev pub IsShownFor : Bool → Drawing → Netlist → Scene → Type 0
IsShownFor true task c scene = IsNextShown task c scene
IsShownFor false task c scene = (scene.circuit ≡ c) × (scene.keep ≡ held_by task.options c) × (scene.set ≡ None)

-- a scene of what the task shows of the circuit that is read, which can be drawn
pub record IsSceneOf (task : Drawing) (before after : Input) (scene : Scene) : Type 0 where
  pub spelt : SpeltCircuit
  pub read : IsCircuitAt task.input before after spelt
  pub shown : IsShownFor task.frame task spelt.circuit scene
  pub can : CanBeDrawn task.around scene.circuit

-- what is written of a scene
abbrev pub picture_of : Drawing → Scene → List ℕ
picture_of task scene = picture scene.circuit scene.keep scene.set (shown scene.circuit task) (middle scene.circuit task)

-- the picture of the scene of what is read was written to what the task writes
pub record PrintsPicture (FileGiven : List ℕ → List ℕ → Type 0) (task : Drawing) (before after : Input) (old new : Output) (ended : Outcome) : Type 0 where
  pub ends : ended ≡ Done
  pub scene : Scene
  pub is : IsSceneOf task before after scene
  pub writes : IsTargetGiven FileGiven task.output old new (picture_of task scene)
