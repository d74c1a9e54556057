-- The options of whoever asks for nothing.
use Rattle.std.specs.Prelude.{◌≡◌, ◌^◌, [], None, false}
use Rattle.aig_graph.specs.declared.choice.Choice.TheVariants.{Greatest}
use Rattle.frame_runs.specs.declared.bound.PathBound.TheVariants as bounds
use Rattle.frame_runs.specs.declared.options.Options.{Options}

-- The spelling of the file, frames without a limit, each over the greatest least set. No
-- certificate, no latch held, none merged, and no bound on paths.
pub record AreDefaults (options : Options) : Type 0 where
  pub spelling : options.spelling ≡ None
  pub frames : options.max_frames ≡ 2 ^ 28
  pub choice : options.choice ≡ Greatest
  pub certify : options.certify ≡ false
  pub keep : options.keep.items ≡ []
  pub keep_latches : options.keep_latches.items ≡ []
  pub merge : options.merge ≡ false
  pub classes : options.classes ≡ None
  pub bound : options.bound ≡ bounds.None
