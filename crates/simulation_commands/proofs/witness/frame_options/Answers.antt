use Rattle.std.proofs.Common.{refl, ap}
use Rattle.aig_graph.specs.Keep.{names_of}
use Rattle.simulation_commands.proofs.witness.frame_options.Goals as goal

pub returns : goal.returns
returns c = record {
  frames = refl;
  merges = refl;
  names = ap names_of c.defaults.ensures.keep;
  positions = c.defaults.ensures.keep_latches;
  choice = c.defaults.ensures.choice;
  guessed = c.defaults.ensures.classes;
  unbounded = c.defaults.ensures.bound;
}
