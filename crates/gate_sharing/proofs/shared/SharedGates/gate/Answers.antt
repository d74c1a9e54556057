use Rattle.std.proofs.Common.{subst}
use Rattle.std.proofs.lemmas.Result.{IfOk-weaker}
use Rattle.aig_graph.specs.declared.graph.Gate.{Gate}
use Rattle.gate_sharing.specs.Shared.{IsBoth, IsFolded}
use Rattle.gate_sharing.proofs.SharedLaws.{both-either, both-folded}
use Rattle.gate_sharing.proofs.shared.SharedGates.gate.Goals as goal

pub returns-in-Some-clause-is : goal.returns-in-Some-clause-is
returns-in-Some-clause-is c =
    both-folded c.args.self.now c.args.a c.args.b c.in-Some.lit c.requires.a c.requires.b (subst (λ (g : Gate). IsFolded g c.in-Some.lit) c.of-gate.ensures c.in-Some.ensures)

pub returns-in-None-clause-is : goal.returns-in-None-clause-is
returns-in-None-clause-is c =
    IfOk-weaker c.numbered.result _ (IsBoth c.numbered.new.self c.args.a c.args.b)
    (λ lit both. both-either c.numbered.new.self c.args.a c.args.b lit (subst (λ (g : Gate). IsBoth c.numbered.new.self g.rhs0 g.rhs1 lit) c.of-gate.ensures both)) c.numbered.ensures.is
