use Rattle.std.proofs.Common.{◌∙◌, ap}
use Rattle.frame_runs.specs.Bounds.{bound_for}
use Rattle.frame_runs.proofs.beginning.begin.Goals as goal

pub begun_under-requires-clause-bound : goal.begun_under-requires-clause-bound
begun_under-requires-clause-bound g c = c.in-Ok.ensures ∙ ap (bound_for c.args.options.now.bound) c.circuit.ensures
