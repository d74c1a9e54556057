use Rattle.std.proofs.Common.{◌∙◌, subst, sym}
use Rattle.aig_graph.specs.Graph.{Graph}
use Rattle.aig_graph.specs.Circuits.{AreLiteralsOf}
use Rattle.aig_graph.proofs.PropsLaws.{properties-within}
use Rattle.lane_sim.proofs.run.Run.next.Goals as goal

pub simulate_step-requires-clause-literals : goal.simulate_step-requires-clause-literals
simulate_step-requires-clause-literals c =
    subst (λ (graph : Graph). AreLiteralsOf graph c.as_slice.result.now) (sym c.aig.ensures.value)
    (subst (AreLiteralsOf c.args.circuit.now.aig) (sym (c.as_slice.ensures.value ∙ c.requires.run.literals)) (properties-within c.args.circuit.now c.aig.ensures.netlist))
