use Rattle.std.proofs.Common.{◌≡◌, ◌∙◌, ap, subst}
use Rattle.aig_graph.specs.Graph.{Graph, first_gate, variables_end}
use Rattle.map_circuits.specs.Following.{Follows}
use Rattle.map_circuits.specs.Packing.{packed}
use Rattle.map_circuits.proofs.map_gates.MapGates.add_functions.Goals as goal

pub returns-clause-follows : goal.returns-clause-follows
returns-clause-follows c = λ functions p.
    let n = c.self.inside.inputs in
    let g : Graph = c.args.aig.now in
    let h : Graph = packed n c.add_in_room.new.deltas.items in
    let same : packed n c.reserve_gates.new.deltas.items ≡ c.args.self.now = ap (packed n) c.reserve_gates.ensures.items ∙ c.self.view_is in
    let P : Graph → Type 0 = λ old. Follows old functions g c.args.set.now (first_gate g) old c.args.literals.now → Follows old functions g c.args.set.now (variables_end g) h c.add_in_room.new.literals in
    subst P same (c.add_in_room.ensures.follows functions) p
