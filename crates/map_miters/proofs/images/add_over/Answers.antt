use Rattle.std.proofs.lemmas.List.Elements.{All-append, All-cons}
use Rattle.aig_graph.specs.Circuits.{AreLiteralsOf}
use Rattle.std.proofs.Common.{ℕ, List, arith, sym, subst, ap, length, length-append}
use Rattle.aig_graph.specs.Graph.{Graph, IsLiteralOf}
use Rattle.aig_graph.specs.Value.{value_within}
use Rattle.map_circuits.specs.Instances.{HaveValues}
use Rattle.witness_circuits.proofs.ViewLaws.{instance-view, leaves-have}
use Rattle.map_miters.proofs.images.add_over.Goals as goal

pub returns-clause-view : goal.returns-clause-view
returns-clause-view c =
    let h : Graph = c.args.gates.now in
    let g : Graph = c.args.aig.now in
    let inputs : List ℕ = c.args.inputs.now in
    let latches : List ℕ = c.args.latches.now in
    λ x s of_inputs of_latches.
    instance-view h c.add_instance.new.gates g c.in_ok-leaves.leaves c.in_ok-part.part x s c.known.ensures c.in_ok-part.ensures.extends.graph c.in_ok-part.ensures.is
    (λ z u. subst (λ (ls : List ℕ). HaveValues h ls z u (value_within g (x z u) (s z u))) (sym c.in_ok-leaves.ensures)
    (leaves-have h g inputs latches c.requires.graph c.known.ensures c.requires.wide c.requires.long z (x z u) u (s z u)
    (λ i less. of_inputs.values z u i (omega (arith, less, c.requires.wide))) (λ j less. of_latches.values z u j (omega (arith, less, c.requires.long)))))

pub add_instance-requires-clause-graph : goal.add_instance-requires-clause-graph
add_instance-requires-clause-graph c = c.requires.graph

pub add_instance-requires-clause-many : goal.add_instance-requires-clause-many
add_instance-requires-clause-many c =
    omega (arith, ap (λ (ls : List ℕ). length ls) c.in_ok-leaves.ensures, length-append c.args.inputs.now c.args.latches.now, c.requires.wide, c.requires.long)

pub returns-clause-extends : goal.returns-clause-extends
returns-clause-extends c = c.in_ok-part.ensures.extends

pub add_instance-requires-clause-within : goal.add_instance-requires-clause-within
add_instance-requires-clause-within c =
    subst (λ (ls : List ℕ). AreLiteralsOf c.args.gates.now ls) (sym c.in_ok-leaves.ensures)
    (All-cons (IsLiteralOf c.args.gates.now) 0 _ (omega arith) (All-append (IsLiteralOf c.args.gates.now) c.args.inputs.now c.args.latches.now c.requires.inputs c.requires.latches))
