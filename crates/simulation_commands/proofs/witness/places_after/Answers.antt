use Rattle.simulation_commands.proofs.witness.places_after.Goals as goal

pub returns-in-Ok : goal.returns-in-Ok
returns-in-Ok g c = record {
  options = c.frame_options-options.result;
  are_options = c.frame_options-options.ensures;
  rounds = c.in-Ok.rounds;
  now = c.in-Ok.ensures.retimed.0;
  is = c.in-Ok.ensures.retimed.1;
  are = c.places_of.ensures;
}
