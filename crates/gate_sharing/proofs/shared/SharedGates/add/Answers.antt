use Rattle.std.proofs.Common.{◌≡◌, ◌<◌, ◌∙◌, arith, sym, subst}
use Rattle.aig_graph.specs.declared.literal.TheConstants.{MAX_VARIABLES}
use Rattle.aig_graph.specs.Graph.{IsGateAt}
use Rattle.aig_graph.specs.Gates.{Gates, Grows, gates_end}
use Rattle.gate_sharing.specs.Shared.{shared_gates}
use Rattle.gate_sharing.proofs.SharedLaws.{gates-after, grows-after, takes-one, last-there}
use Rattle.gate_sharing.proofs.shared.SharedGates.add.Goals as goal

pub invariant_of-self-2 : goal.invariant_of-self-2
invariant_of-self-2 c =
    let k : Gates = record { first = c.self.inside.first; gates = shared_gates c.self.inside.gates.items } in
    let same : k ≡ c.args.self.now = c.self.view_is ∙ c.in_ok-before.ensures in
    let at : IsGateAt (gates_end k) c.args.gate = subst (λ (s : Gates). IsGateAt (gates_end s) c.args.gate) (sym same) c.requires.at in
    let room : gates_end k < MAX_VARIABLES = subst (λ (s : Gates). gates_end s < MAX_VARIABLES) (sym same) c.requires.room in
    gates-after c.self.inside.first (shared_gates c.self.inside.gates.items) (shared_gates c.push.new.self.items) c.args.gate
    (takes-one c.self.inside.gates.items c.push.new.self.items (record { gate = c.args.gate; before = c.in_ok-before.before }) c.in_ok-push.ensures.items) c.self.invariant room at

pub returns-clause-grows : goal.returns-clause-grows
returns-clause-grows c =
    let k : Gates = record { first = c.self.inside.first; gates = shared_gates c.self.inside.gates.items } in
    let same : k ≡ c.args.self.now = c.self.view_is ∙ c.in_ok-before.ensures in
    subst (λ (s : Gates). Grows s (record { first = c.self.inside.first; gates = shared_gates c.push.new.self.items })) same
    (grows-after c.self.inside.first (shared_gates c.self.inside.gates.items) (shared_gates c.push.new.self.items) c.args.gate
    (takes-one c.self.inside.gates.items c.push.new.self.items (record { gate = c.args.gate; before = c.in_ok-before.before }) c.in_ok-push.ensures.items))

pub returns-clause-is : goal.returns-clause-is
returns-clause-is c = last-there c.self.inside.gates.items c.push.new.self.items (record { gate = c.args.gate; before = c.in_ok-before.before }) c.len-place.result c.in_ok-push.ensures.items (omega (arith, c.len-place.ensures))
