use Rattle.std.proofs.Common.{◌∙◌, ap, arith}
use Rattle.lane_sim.specs.Lanes.{lane}
use Rattle.lane_sim.proofs.table.load_latches.Goals as goal

pub returns : goal.returns
returns c = λ k t s h constant holds. record {
  constant = ap (λ l. lane l k) c.loop-j.invariant.constant ∙ constant;
  latches = λ j less. ap (λ l. lane l k) (c.loop-j.invariant.latches j (omega (arith, less, c.loop-j-test.false, c.requires.latches))) ∙ holds.each j less;
}
