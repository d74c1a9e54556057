use Rattle.std.proofs.Common.{length}
use Rattle.aig_graph.specs.Graph.{Graph}
use Rattle.witness_circuits.specs.declared.sharing.Sharing.{Sharing}
use Rattle.witness_circuits.specs.Joining.{joined, own_at}
use Rattle.state_maps.specs.States.{Digits, State}
use Rattle.witness_circuits.specs.Parts.{held_by}
use Rattle.witness_circuits.proofs.ViewLaws.{instance-view, witness-have, witness-long, witness-within}
use Rattle.witness_circuits.proofs.parts.add_witness.Goals as goal

pub add_instance-requires-clause-many : goal.add_instance-requires-clause-many
add_instance-requires-clause-many c =
    witness-long c.args.gates.now c.requires.graph c.args.first.now c.args.witness.now c.args.outputs.now c.in_ok-leaves.leaves c.args.sharing.now c.args.first_latch c.known.ensures c.requires.at c.requires.places c.requires.widths
    c.in_ok-leaves.ensures

pub add_instance-requires-clause-within : goal.add_instance-requires-clause-within
add_instance-requires-clause-within c =
    witness-within c.args.gates.now c.requires.graph c.args.first.now c.args.witness.now c.args.outputs.now c.in_ok-leaves.leaves c.args.sharing.now c.args.first_latch c.known.ensures c.requires.at c.requires.places c.requires.widths
    c.in_ok-leaves.ensures c.requires.outputs

pub returns-clause-view : goal.returns-clause-view
returns-clause-view c =
    let h : Graph = c.args.gates.now in
    let g : Graph = c.args.first.now in
    let k : Sharing = c.args.sharing.now in
    let x : Digits → State → Digits = λ z u. joined k.inputs z (λ i. z (own_at g.inputs k.inputs i)) in
    let s : Digits → State → State = λ z u. joined k.latches (held_by h c.args.outputs.now z u) (λ j. u (own_at (length g.latches) k.latches j)) in
    instance-view h c.add_instance.new.gates c.args.witness.now c.in_ok-leaves.leaves c.in_ok-part.part x s c.known.ensures c.in_ok-part.ensures.extends.graph c.in_ok-part.ensures.is
    (λ z u. witness-have h c.requires.graph g c.args.witness.now c.args.outputs.now c.in_ok-leaves.leaves k c.args.first_latch c.known.ensures c.requires.at c.requires.places c.requires.widths c.in_ok-leaves.ensures z u)
