use Rattle.std.proofs.Common.{◌∙◌, ap, sym, length}
use Rattle.lane_sim.proofs.TraceLaws.{recorded-length}
use Rattle.lane_sim.proofs.trace.Trace.sequences.Goals as goal

pub returns : goal.returns
returns c = ap length c.as_slice.ensures.value ∙ sym (ap length (sym c.self.view_is) ∙ recorded-length c.self.inside.steps.items c.self.inside.blocks.items)
