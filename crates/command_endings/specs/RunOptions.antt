-- The options of a run, by those that a task has.
use Rattle.std.specs.Prelude.{ℕ, ◌≡◌, Bool}
use Rattle.command_line.specs.declared.options.RetimingOptions.{RetimingOptions}
use Rattle.frame_runs.specs.Named.{holding_in}
use Rattle.frame_runs.specs.declared.options.Options.{Options}
use Rattle.command_endings.specs.HeldNames.{holding_of}

-- the options of a run are the task's, with this most frames, and certificates or none
pub record AreOptionsOf (asked : RetimingOptions) (most : ℕ) (is_certified : Bool) (options : Options) : Type 0 where
  pub spelling : options.spelling ≡ asked.spelling
  pub frames : options.max_frames ≡ most
  pub choice : options.choice ≡ asked.choice
  pub certify : options.certify ≡ is_certified
  pub merge : options.merge ≡ asked.merge
  pub bound : options.bound ≡ asked.bound
  pub holding : holding_in options ≡ holding_of asked
