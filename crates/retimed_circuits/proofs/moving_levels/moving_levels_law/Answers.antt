use Rattle.aig_graph.specs.Move.{move_of}
use Rattle.retimed_circuits.proofs.MovedLevelLaws.{moved-levels}
use Rattle.retimed_circuits.proofs.moving_levels.moving_levels_law.Goals as goal

pub returns : goal.returns
returns c = λ bound circuit held s valid netlist within. moved-levels (move_of circuit held s) valid bound within netlist
