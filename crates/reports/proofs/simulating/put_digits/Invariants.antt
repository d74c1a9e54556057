use Rattle.std.proofs.Common.{ℕ, List, take}
use Rattle.aig_graph.specs.Graph.{Graph}
use Rattle.counted_io.specs.Buffered.{Puts}
use Rattle.lane_sim.specs.declared.stimulus.InputSequence.{InputSequence}
use Rattle.lane_sim.specs.Blocks.{in_lane}
use Rattle.lane_sim.specs.Steps.{AreAt}
use Rattle.lane_sim.specs.Traces.{value_in}
use Rattle.reports.specs.Simulating.{digits_of}
use Rattle.reports.proofs.simulating.put_digits.Given as goal

abbrev pub invariant-loop-lit : goal.invariant-loop-lit
invariant-loop-lit g l = (h : Graph) (sequences : List InputSequence) (t : ℕ) → AreAt h sequences l.values t
    → Puts g.W.CountedWrite.output l.fn.out l.out (digits_of (value_in h (in_lane sequences 0) t) (take l.lit-index l.literals))
