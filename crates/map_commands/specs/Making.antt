-- How a command ends that makes a circuit of circuits and a map.
use Rattle.std.specs.Prelude.{ℕ, ◌≡◌, List}
use Rattle.file_words.specs.declared.spelling.Spelling.{Spelling}
use Rattle.aig_binary.specs.Spellings.{text_in}
use Rattle.reports.specs.Differences.{shapes_text}
use Rattle.counted_io.specs.Output.{Output}
use Rattle.counted_io.specs.declared.target.Target.{Target}
use Rattle.circuit_files.specs.WrittenFiles.{IsTargetGiven}
use Rattle.circuit_files.specs.declared.outcome.Outcome.{Outcome}
use Rattle.circuit_files.specs.declared.outcome.Outcome.TheVariants as ends
use Rattle.command_endings.specs.Printing.{EndsWith}
use Rattle.map_commands.specs.declared.made.Made.{Made}
use Rattle.map_commands.specs.declared.made.Made.TheVariants.{Circuit, ShapesDiffer}

-- it is written to this target, by what it means that a file was given a text
abbrev pub EndsMaking : (List ℕ → List ℕ → Type 0) → Made → Spelling → Target → Output → Output → Outcome → Type 0
EndsMaking FileGiven (Circuit r) spelling target old new ended = (ended ≡ ends.Done) × IsTargetGiven FileGiven target old new (text_in spelling r)
EndsMaking FileGiven ShapesDiffer spelling target old new ended = EndsWith ends.ShapesDiffer shapes_text old new ended
