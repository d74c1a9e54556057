-- The move that marks and plans are of.
use Rattle.aig_graph.specs.Move.{Move}
use Rattle.rebuild.specs.declared.marks.MarkedSet.{MarkedSet}
use Rattle.rebuild.specs.declared.plan.Plan.{Plan}

abbrev pub marked : MarkedSet → Move
marked k = record { circuit = k.circuit.now; held = k.keep.now; set = k.set.now }

abbrev pub planned : Plan → Move
planned p = marked p.marks
