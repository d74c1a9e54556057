use Rattle.std.proofs.Common.{ℕ, List, ◌∙◌, ap, sym, subst, length, false}
use Rattle.aig_graph.specs.Circuits.{AreLiteralsOf}
use Rattle.aig_graph.specs.Graph.{Graph}
use Rattle.aig_graph.specs.Value.{value_within}
use Rattle.map_circuits.specs.Instances.{HaveValues}
use Rattle.witness_circuits.proofs.ViewLaws.{instance-view, map-have, map-long, map-within}
use Rattle.witness_circuits.proofs.parts.add_map.Goals as goal

pub add_instance-requires-clause-many : goal.add_instance-requires-clause-many
add_instance-requires-clause-many c = ap (λ (ls : List ℕ). length ls) c.in_ok-leaves.ensures ∙ map-long c.args.gates.now c.requires.graph c.args.map.now c.args.first_latch c.known.ensures c.requires.latches

pub add_instance-requires-clause-within : goal.add_instance-requires-clause-within
add_instance-requires-clause-within c =
    subst (λ (ls : List ℕ). AreLiteralsOf c.args.gates.now ls) (sym c.in_ok-leaves.ensures)
    (map-within c.args.gates.now c.requires.graph c.args.map.now c.args.first_latch c.known.ensures c.requires.latches c.requires.at c.requires.inputs)

pub returns-clause-view : goal.returns-clause-view
returns-clause-view c =
    let h : Graph = c.args.gates.now in
    let g : Graph = c.args.map.now in
    instance-view h c.add_instance.new.gates g c.in_ok-leaves.leaves c.in_ok-part.part (λ z u. u) (λ z u. λ j. false) c.known.ensures c.in_ok-part.ensures.extends.graph c.in_ok-part.ensures.is
    (λ z u. subst (λ (ls : List ℕ). HaveValues h ls z u (value_within g u (λ j. false))) (sym c.in_ok-leaves.ensures)
    (map-have h c.requires.graph g c.args.first_latch c.known.ensures c.requires.at c.requires.inputs c.requires.latches z u))
