use Rattle.std.proofs.Common.{ℕ, ◌∙◌, List, ap, get_or, length, sym, subst}
use Rattle.aig_graph.specs.Circuits.{AreLiteralsOf, Netlist}
use Rattle.aig_graph.specs.Graph.{Graph}
use Rattle.aig_graph.specs.Value.{value_within}
use Rattle.map_miters.specs.Comparing.{AreEqualIn, SaysThat}
use Rattle.map_miters.specs.Holding.{Held, IsImage}
use Rattle.map_miters.proofs.HoldingLaws.{holds-grow, holds-itself}
use Rattle.map_miters.proofs.GoalLaws.{given-says}
use Rattle.map_miters.proofs.goals.add_given.Goals as goal

pub add_each_equal-requires-clause-long : goal.add_each_equal-requires-clause-long
add_each_equal-requires-clause-long c =
    let g : Graph = c.args.gates.now in
    let s : Held = λ z u. λ k. value_within g z u (get_or c.args.state.now k 0) in
    let image : IsImage c.add_image.new.gates c.args.map.now s c.in_ok-image.image = c.in_ok-image.ensures.image s (holds-itself g c.args.state.now c.requires.state) in
    ap (λ (ls : List ℕ). length ls) c.as_slice.ensures.value ∙ image.many ∙ sym c.requires.long

pub add_each_equal-requires-clause-a : goal.add_each_equal-requires-clause-a
add_each_equal-requires-clause-a c =
    let g : Graph = c.args.gates.now in
    let h : Graph = c.add_image.new.gates in
    let s : Held = λ z u. λ k. value_within g z u (get_or c.args.state.now k 0) in
    let image : IsImage h c.args.map.now s c.in_ok-image.image = c.in_ok-image.ensures.image s (holds-itself g c.args.state.now c.requires.state) in
    subst (λ (ls : List ℕ). AreLiteralsOf h ls) (sym c.as_slice.ensures.value) image.outputs.within

pub add_each_equal-requires-clause-b : goal.add_each_equal-requires-clause-b
add_each_equal-requires-clause-b c =
    (holds-grow c.args.gates.now c.add_image.new.gates c.args.given.now _ c.in_ok-image.ensures.extends (holds-itself c.args.gates.now c.args.given.now c.requires.given)).within

pub add_conjunction-requires-clause-a : goal.add_conjunction-requires-clause-a
add_conjunction-requires-clause-a c =
    let g : Graph = c.args.gates.now in
    let h : Graph = c.add_image.new.gates in
    let s : Held = λ z u. λ k. value_within g z u (get_or c.args.state.now k 0) in
    let image : IsImage h c.args.map.now s c.in_ok-image.image = c.in_ok-image.ensures.image s (holds-itself g c.args.state.now c.requires.state) in
    c.in_ok-equal.ensures.extends.literals c.in_ok-image.image.kept image.within

pub returns-clause-says : goal.returns-clause-says
returns-clause-says c =
    let g : Graph = c.args.gates.now in
    let h : Graph = c.add_image.new.gates in
    let m : Netlist = c.args.map.now in
    let i : Graph = c.add_each_equal.new.gates in
    λ s t of_state of_given.
    let image : IsImage h m s c.in_ok-image.image = c.in_ok-image.ensures.image s of_state in
    let says : SaysThat i c.in_ok-equal.equal (AreEqualIn h c.in_ok-image.image.outputs.items c.args.given.now) =
    subst (λ (ls : List ℕ). SaysThat i c.in_ok-equal.equal (AreEqualIn h ls c.args.given.now)) c.as_slice.ensures.value c.in_ok-equal.ensures.equal in
    given-says m c.in_ok-image.image h i c.add_conjunction.new.gates c.args.given.now s t c.requires.long image
    (holds-grow g h c.args.given.now t c.in_ok-image.ensures.extends of_given)
    c.in_ok-equal.equal c.in_ok-both.both c.in_ok-equal.ensures.extends says c.in_ok-both.ensures.extends c.in_ok-both.ensures.is

pub add_image-requires-clause-graph : goal.add_image-requires-clause-graph
add_image-requires-clause-graph c = c.requires.graph

pub add_image-requires-clause-wide : goal.add_image-requires-clause-wide
add_image-requires-clause-wide c = c.requires.wide

pub add_image-requires-clause-latches : goal.add_image-requires-clause-latches
add_image-requires-clause-latches c = c.requires.latches

pub add_image-requires-clause-state : goal.add_image-requires-clause-state
add_image-requires-clause-state c = c.requires.state

pub add_each_equal-requires-clause-graph : goal.add_each_equal-requires-clause-graph
add_each_equal-requires-clause-graph c = c.in_ok-image.ensures.extends.graph

pub add_conjunction-requires-clause-graph : goal.add_conjunction-requires-clause-graph
add_conjunction-requires-clause-graph c = c.in_ok-equal.ensures.extends.graph

pub add_conjunction-requires-clause-b : goal.add_conjunction-requires-clause-b
add_conjunction-requires-clause-b c = c.in_ok-equal.ensures.equal.within
