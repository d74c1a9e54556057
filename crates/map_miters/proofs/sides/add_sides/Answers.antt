use Rattle.std.proofs.Common.{ℕ, ◌∙◌, List, arith, ap, length, sym, subst}
use Rattle.aig_graph.specs.Circuits.{AreLiteralsOf, Netlist}
use Rattle.aig_graph.specs.Graph.{Graph}
use Rattle.map_miters.specs.Holding.{HoldAs, IsStep}
use Rattle.map_miters.proofs.HoldingLaws.{holds-grow, step-grows}
use Rattle.map_circuits.proofs.GrowingLaws.{extends-transitive}
use Rattle.map_miters.specs.declared.begun.Leaves.{Leaves}
use Rattle.map_miters.specs.Sides.{AreListed, beside_digits, beside_first, beside_second}
use Rattle.map_miters.specs.Ties.{HasLatches}
use Rattle.map_miters.proofs.LeafLaws.{AreHeld, begun-latches, leaves-held, leaves-listed, latches-room}
use Rattle.map_miters.proofs.sides.add_sides.Goals as goal

pub leaves_of-requires : goal.leaves_of-requires
leaves_of-requires c =
    let g : Graph = c.args.gates.now in
    let a : Netlist = c.args.first.now in
    let d : Netlist = c.args.second.now in
    let has : HasLatches a.aig d.aig c.args.tied g = begun-latches a.aig d.aig g c.args.tied c.requires.begun in
    omega (
      arith,
      ap (λ (h : Graph). h.inputs) c.aig.ensures.value,
      ap (λ (h : Graph). length h.latches) c.aig.ensures.value,
      ap (λ (h : Graph). length h.latches) c.aig-2.ensures.value,
      has.inputs,
      latches-room a.aig d.aig g c.args.tied has,
      c.requires.graph.small,
    )

pub add_step-requires-clause-wide : goal.add_step-requires-clause-wide
add_step-requires-clause-wide c =
    let g : Graph = c.args.gates.now in
    let a : Netlist = c.args.first.now in
    let d : Netlist = c.args.second.now in
    let has : HasLatches a.aig d.aig c.args.tied g = begun-latches a.aig d.aig g c.args.tied c.requires.begun in
    let leaves : Leaves = c.in_ok-leaves.leaves in
    let listed : AreListed a.aig d.aig leaves = leaves-listed a.aig d.aig c.aig.result.now c.aig-2.result.now leaves c.aig.ensures.value c.aig-2.ensures.value c.in_ok-leaves.ensures in
    let held : AreHeld g a.aig d.aig leaves = leaves-held g a.aig d.aig c.args.tied leaves c.requires.graph has listed in
    ap (λ (ls : List ℕ). length ls) c.as_slice-inputs.ensures.value ∙ held.wide

pub add_step-requires-clause-long : goal.add_step-requires-clause-long
add_step-requires-clause-long c =
    let g : Graph = c.args.gates.now in
    let a : Netlist = c.args.first.now in
    let d : Netlist = c.args.second.now in
    let has : HasLatches a.aig d.aig c.args.tied g = begun-latches a.aig d.aig g c.args.tied c.requires.begun in
    let leaves : Leaves = c.in_ok-leaves.leaves in
    let listed : AreListed a.aig d.aig leaves = leaves-listed a.aig d.aig c.aig.result.now c.aig-2.result.now leaves c.aig.ensures.value c.aig-2.ensures.value c.in_ok-leaves.ensures in
    let held : AreHeld g a.aig d.aig leaves = leaves-held g a.aig d.aig c.args.tied leaves c.requires.graph has listed in
    ap (λ (ls : List ℕ). length ls) c.as_slice.ensures.value ∙ held.first_long

pub add_step-requires-clause-inputs : goal.add_step-requires-clause-inputs
add_step-requires-clause-inputs c =
    let g : Graph = c.args.gates.now in
    let a : Netlist = c.args.first.now in
    let d : Netlist = c.args.second.now in
    let has : HasLatches a.aig d.aig c.args.tied g = begun-latches a.aig d.aig g c.args.tied c.requires.begun in
    let leaves : Leaves = c.in_ok-leaves.leaves in
    let listed : AreListed a.aig d.aig leaves = leaves-listed a.aig d.aig c.aig.result.now c.aig-2.result.now leaves c.aig.ensures.value c.aig-2.ensures.value c.in_ok-leaves.ensures in
    let held : AreHeld g a.aig d.aig leaves = leaves-held g a.aig d.aig c.args.tied leaves c.requires.graph has listed in
    subst (λ (ls : List ℕ). AreLiteralsOf g ls) (sym c.as_slice-inputs.ensures.value) held.inputs.within

pub add_step-requires-clause-state : goal.add_step-requires-clause-state
add_step-requires-clause-state c =
    let g : Graph = c.args.gates.now in
    let a : Netlist = c.args.first.now in
    let d : Netlist = c.args.second.now in
    let has : HasLatches a.aig d.aig c.args.tied g = begun-latches a.aig d.aig g c.args.tied c.requires.begun in
    let leaves : Leaves = c.in_ok-leaves.leaves in
    let listed : AreListed a.aig d.aig leaves = leaves-listed a.aig d.aig c.aig.result.now c.aig-2.result.now leaves c.aig.ensures.value c.aig-2.ensures.value c.in_ok-leaves.ensures in
    let held : AreHeld g a.aig d.aig leaves = leaves-held g a.aig d.aig c.args.tied leaves c.requires.graph has listed in
    subst (λ (ls : List ℕ). AreLiteralsOf g ls) (sym c.as_slice.ensures.value) held.first.within

pub add_step-requires-2-clause-wide : goal.add_step-requires-2-clause-wide
add_step-requires-2-clause-wide c =
    let g : Graph = c.args.gates.now in
    let a : Netlist = c.args.first.now in
    let d : Netlist = c.args.second.now in
    let has : HasLatches a.aig d.aig c.args.tied g = begun-latches a.aig d.aig g c.args.tied c.requires.begun in
    let leaves : Leaves = c.in_ok-leaves.leaves in
    let listed : AreListed a.aig d.aig leaves = leaves-listed a.aig d.aig c.aig.result.now c.aig-2.result.now leaves c.aig.ensures.value c.aig-2.ensures.value c.in_ok-leaves.ensures in
    let held : AreHeld g a.aig d.aig leaves = leaves-held g a.aig d.aig c.args.tied leaves c.requires.graph has listed in
    ap (λ (ls : List ℕ). length ls) c.as_slice-inputs.ensures.value ∙ held.wide ∙ sym c.requires.askable.shape.inputs

pub add_step-requires-2-clause-long : goal.add_step-requires-2-clause-long
add_step-requires-2-clause-long c =
    let g : Graph = c.args.gates.now in
    let a : Netlist = c.args.first.now in
    let d : Netlist = c.args.second.now in
    let has : HasLatches a.aig d.aig c.args.tied g = begun-latches a.aig d.aig g c.args.tied c.requires.begun in
    let leaves : Leaves = c.in_ok-leaves.leaves in
    let listed : AreListed a.aig d.aig leaves = leaves-listed a.aig d.aig c.aig.result.now c.aig-2.result.now leaves c.aig.ensures.value c.aig-2.ensures.value c.in_ok-leaves.ensures in
    let held : AreHeld g a.aig d.aig leaves = leaves-held g a.aig d.aig c.args.tied leaves c.requires.graph has listed in
    ap (λ (ls : List ℕ). length ls) c.as_slice-2.ensures.value ∙ held.second_long

pub add_step-requires-2-clause-inputs : goal.add_step-requires-2-clause-inputs
add_step-requires-2-clause-inputs c =
    let g : Graph = c.args.gates.now in
    let a : Netlist = c.args.first.now in
    let d : Netlist = c.args.second.now in
    let has : HasLatches a.aig d.aig c.args.tied g = begun-latches a.aig d.aig g c.args.tied c.requires.begun in
    let leaves : Leaves = c.in_ok-leaves.leaves in
    let listed : AreListed a.aig d.aig leaves = leaves-listed a.aig d.aig c.aig.result.now c.aig-2.result.now leaves c.aig.ensures.value c.aig-2.ensures.value c.in_ok-leaves.ensures in
    let held : AreHeld g a.aig d.aig leaves = leaves-held g a.aig d.aig c.args.tied leaves c.requires.graph has listed in
    let h : Graph = c.add_step.new.gates in
    let more = c.in_ok-of_first.ensures.extends in
    subst (λ (ls : List ℕ). AreLiteralsOf h ls) (sym c.as_slice-inputs.ensures.value) (holds-grow g h leaves.inputs.items beside_digits more held.inputs).within

pub add_step-requires-2-clause-state : goal.add_step-requires-2-clause-state
add_step-requires-2-clause-state c =
    let g : Graph = c.args.gates.now in
    let a : Netlist = c.args.first.now in
    let d : Netlist = c.args.second.now in
    let has : HasLatches a.aig d.aig c.args.tied g = begun-latches a.aig d.aig g c.args.tied c.requires.begun in
    let leaves : Leaves = c.in_ok-leaves.leaves in
    let listed : AreListed a.aig d.aig leaves = leaves-listed a.aig d.aig c.aig.result.now c.aig-2.result.now leaves c.aig.ensures.value c.aig-2.ensures.value c.in_ok-leaves.ensures in
    let held : AreHeld g a.aig d.aig leaves = leaves-held g a.aig d.aig c.args.tied leaves c.requires.graph has listed in
    let h : Graph = c.add_step.new.gates in
    let more = c.in_ok-of_first.ensures.extends in
    subst (λ (ls : List ℕ). AreLiteralsOf h ls) (sym c.as_slice-2.ensures.value) (holds-grow g h leaves.second.items (beside_second a.aig) more held.second).within

pub returns-clause-sides : goal.returns-clause-sides
returns-clause-sides c =
    let g : Graph = c.args.gates.now in
    let a : Netlist = c.args.first.now in
    let d : Netlist = c.args.second.now in
    let has : HasLatches a.aig d.aig c.args.tied g = begun-latches a.aig d.aig g c.args.tied c.requires.begun in
    let leaves : Leaves = c.in_ok-leaves.leaves in
    let listed : AreListed a.aig d.aig leaves = leaves-listed a.aig d.aig c.aig.result.now c.aig-2.result.now leaves c.aig.ensures.value c.aig-2.ensures.value c.in_ok-leaves.ensures in
    let held : AreHeld g a.aig d.aig leaves = leaves-held g a.aig d.aig c.args.tied leaves c.requires.graph has listed in
    let h : Graph = c.add_step.new.gates in
    let more = c.in_ok-of_first.ensures.extends in
    let i : Graph = c.add_step-2.new.gates in
    let last = c.in_ok-of_second.ensures.extends in
    let all = extends-transitive g h i more last in
    let of_inputs : HoldAs g c.as_slice-inputs.result.now beside_digits = subst (λ (ls : List ℕ). HoldAs g ls beside_digits) (sym c.as_slice-inputs.ensures.value) held.inputs in
    let of_first : HoldAs g c.as_slice.result.now beside_first = subst (λ (ls : List ℕ). HoldAs g ls beside_first) (sym c.as_slice.ensures.value) held.first in
    let of_second : HoldAs g c.as_slice-2.result.now (beside_second a.aig) = subst (λ (ls : List ℕ). HoldAs g ls (beside_second a.aig)) (sym c.as_slice-2.ensures.value) held.second in
    let first : IsStep h a beside_digits beside_first c.in_ok-of_first.of_first = c.in_ok-of_first.ensures.step beside_digits beside_first of_inputs of_first in
    let second : IsStep i d beside_digits (beside_second a.aig) c.in_ok-of_second.of_second =
    c.in_ok-of_second.ensures.step beside_digits (beside_second a.aig) (holds-grow g h c.as_slice-inputs.result.now beside_digits more of_inputs)
    (holds-grow g h c.as_slice-2.result.now (beside_second a.aig) more of_second) in
    record {
      first_long = held.first_long;
      second_long = held.second_long;
      of_first = holds-grow g i leaves.first.items beside_first all held.first;
      of_second = holds-grow g i leaves.second.items (beside_second a.aig) all held.second;
      first = step-grows h i a beside_digits beside_first c.in_ok-of_first.of_first last first;
      second = second;
    }

pub add_step-requires-clause-graph : goal.add_step-requires-clause-graph
add_step-requires-clause-graph c = c.requires.graph

pub add_step-requires-2-clause-graph : goal.add_step-requires-2-clause-graph
add_step-requires-2-clause-graph c = c.in_ok-of_first.ensures.extends.graph

pub returns-clause-extends : goal.returns-clause-extends
returns-clause-extends c = extends-transitive c.args.gates.now c.add_step.new.gates c.add_step-2.new.gates c.in_ok-of_first.ensures.extends c.in_ok-of_second.ensures.extends
