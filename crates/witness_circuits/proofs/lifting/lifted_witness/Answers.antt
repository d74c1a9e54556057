use Rattle.std.proofs.Common.{arith, ap, length, subst}
use Rattle.aig_graph.specs.Graph.{Graph}
use Rattle.witness_circuits.specs.Lifting.{IsNamedAs}
use Rattle.witness_circuits.proofs.lifting.lifted_witness.Goals as goal

pub witness_lifted_over-requires-clause-room : goal.witness_lifted_over-requires-clause-room
witness_lifted_over-requires-clause-room c = record {
  inputs = omega (arith, ap (λ (g : Graph). g.inputs) c.aig.ensures.value);
  latches = omega (arith, ap (λ (g : Graph). length g.latches) c.aig.ensures.value);
}

pub returns : goal.returns
returns c = record { over = c.in_ok-lifted.ensures.lifted; named = subst (λ (g : Graph). IsNamedAs g c.in_ok-lifted.lifted) c.aig.ensures.value c.in_ok-lifted.ensures.named }
