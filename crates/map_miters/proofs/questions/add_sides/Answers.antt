use Rattle.std.proofs.Common.{ℕ, ◌∙◌, List, ap, length, sym, subst}
use Rattle.aig_graph.specs.Circuits.{Netlist, AreLiteralsOf}
use Rattle.aig_graph.specs.Graph.{Graph}
use Rattle.state_maps.specs.MapCircuits.{mapped}
use Rattle.state_maps.specs.States.{after_step}
use Rattle.map_circuits.proofs.GrowingLaws.{extends-transitive}
use Rattle.map_miters.specs.Asking.{asked_digits, asked_state}
use Rattle.map_miters.specs.Holding.{Held, HoldAs, IsImage, IsStep}
use Rattle.map_miters.proofs.HoldingLaws.{holds-grow}
use Rattle.map_miters.proofs.SideLaws.{sides-are}
use Rattle.map_miters.proofs.questions.add_sides.Goals as goal

pub add_image-requires-2-clause-wide : goal.add_image-requires-2-clause-wide
add_image-requires-2-clause-wide c =
    let g : Graph = c.args.gates.now in
    let a : Netlist = c.args.first.now in
    let m : Netlist = c.args.map.now in
    let d : Netlist = c.args.second.now in
    let x : Held = asked_digits in
    let s : Held = asked_state a.aig in
    let of_inputs : HoldAs g c.as_slice-inputs.result.now x = subst (λ (ls : List ℕ). HoldAs g ls x) (sym c.as_slice-inputs.ensures.value) c.requires.leaves.inputs in
    let of_state : HoldAs g c.as_slice-state.result.now s = subst (λ (ls : List ℕ). HoldAs g ls s) (sym c.as_slice-state.ensures.value) c.requires.leaves.latches in
    let h1 : Graph = c.add_step.new.gates in
    let before : IsStep h1 a x s c.in_ok-before.before = c.in_ok-before.ensures.step x s of_inputs of_state in
    let h2 : Graph = c.add_image.new.gates in
    let image : IsImage h2 m s c.in_ok-image.image = c.in_ok-image.ensures.image s (holds-grow g h1 c.as_slice-state.result.now s c.in_ok-before.ensures.extends of_state) in
    let later_state : Held = λ z u. after_step a.aig z (s z u) in
    let of_nexts : HoldAs h2 c.as_slice.result.now later_state =
    subst (λ (ls : List ℕ). HoldAs h2 ls later_state) (sym c.as_slice.ensures.value) (holds-grow h1 h2 c.in_ok-before.before.nexts.items later_state c.in_ok-image.ensures.extends before.nexts) in
    ap (λ (ls : List ℕ). length ls) c.as_slice.ensures.value ∙ before.many_nexts ∙ sym c.requires.askable.inputs

pub add_image-requires-2-clause-state : goal.add_image-requires-2-clause-state
add_image-requires-2-clause-state c =
    let g : Graph = c.args.gates.now in
    let a : Netlist = c.args.first.now in
    let m : Netlist = c.args.map.now in
    let d : Netlist = c.args.second.now in
    let x : Held = asked_digits in
    let s : Held = asked_state a.aig in
    let of_inputs : HoldAs g c.as_slice-inputs.result.now x = subst (λ (ls : List ℕ). HoldAs g ls x) (sym c.as_slice-inputs.ensures.value) c.requires.leaves.inputs in
    let of_state : HoldAs g c.as_slice-state.result.now s = subst (λ (ls : List ℕ). HoldAs g ls s) (sym c.as_slice-state.ensures.value) c.requires.leaves.latches in
    let h1 : Graph = c.add_step.new.gates in
    let before : IsStep h1 a x s c.in_ok-before.before = c.in_ok-before.ensures.step x s of_inputs of_state in
    let h2 : Graph = c.add_image.new.gates in
    let image : IsImage h2 m s c.in_ok-image.image = c.in_ok-image.ensures.image s (holds-grow g h1 c.as_slice-state.result.now s c.in_ok-before.ensures.extends of_state) in
    let later_state : Held = λ z u. after_step a.aig z (s z u) in
    let of_nexts : HoldAs h2 c.as_slice.result.now later_state =
    subst (λ (ls : List ℕ). HoldAs h2 ls later_state) (sym c.as_slice.ensures.value) (holds-grow h1 h2 c.in_ok-before.before.nexts.items later_state c.in_ok-image.ensures.extends before.nexts) in
    of_nexts.within

pub add_step-requires-2-clause-wide : goal.add_step-requires-2-clause-wide
add_step-requires-2-clause-wide c = ap (λ (ls : List ℕ). length ls) c.as_slice-inputs.ensures.value ∙ c.requires.leaves.wide ∙ sym c.requires.askable.shape.inputs

pub add_step-requires-2-clause-long : goal.add_step-requires-2-clause-long
add_step-requires-2-clause-long c =
    let g : Graph = c.args.gates.now in
    let a : Netlist = c.args.first.now in
    let m : Netlist = c.args.map.now in
    let d : Netlist = c.args.second.now in
    let x : Held = asked_digits in
    let s : Held = asked_state a.aig in
    let of_inputs : HoldAs g c.as_slice-inputs.result.now x = subst (λ (ls : List ℕ). HoldAs g ls x) (sym c.as_slice-inputs.ensures.value) c.requires.leaves.inputs in
    let of_state : HoldAs g c.as_slice-state.result.now s = subst (λ (ls : List ℕ). HoldAs g ls s) (sym c.as_slice-state.ensures.value) c.requires.leaves.latches in
    let h1 : Graph = c.add_step.new.gates in
    let before : IsStep h1 a x s c.in_ok-before.before = c.in_ok-before.ensures.step x s of_inputs of_state in
    let h2 : Graph = c.add_image.new.gates in
    let image : IsImage h2 m s c.in_ok-image.image = c.in_ok-image.ensures.image s (holds-grow g h1 c.as_slice-state.result.now s c.in_ok-before.ensures.extends of_state) in
    let later_state : Held = λ z u. after_step a.aig z (s z u) in
    let of_nexts : HoldAs h2 c.as_slice.result.now later_state =
    subst (λ (ls : List ℕ). HoldAs h2 ls later_state) (sym c.as_slice.ensures.value) (holds-grow h1 h2 c.in_ok-before.before.nexts.items later_state c.in_ok-image.ensures.extends before.nexts) in
    let h3 : Graph = c.add_image-2.new.gates in
    let later : IsImage h3 m later_state c.in_ok-later.later = c.in_ok-later.ensures.image later_state of_nexts in
    let given : Held = λ z u. mapped m (s z u) in
    let of_outputs : HoldAs h3 c.as_slice-2.result.now given =
    subst (λ (ls : List ℕ). HoldAs h3 ls given) (sym c.as_slice-2.ensures.value) (holds-grow h2 h3 c.in_ok-image.image.outputs.items given c.in_ok-later.ensures.extends image.outputs) in
    ap (λ (ls : List ℕ). length ls) c.as_slice-2.ensures.value ∙ image.many ∙ c.requires.askable.outputs

pub add_step-requires-2-clause-state : goal.add_step-requires-2-clause-state
add_step-requires-2-clause-state c =
    let g : Graph = c.args.gates.now in
    let a : Netlist = c.args.first.now in
    let m : Netlist = c.args.map.now in
    let d : Netlist = c.args.second.now in
    let x : Held = asked_digits in
    let s : Held = asked_state a.aig in
    let of_inputs : HoldAs g c.as_slice-inputs.result.now x = subst (λ (ls : List ℕ). HoldAs g ls x) (sym c.as_slice-inputs.ensures.value) c.requires.leaves.inputs in
    let of_state : HoldAs g c.as_slice-state.result.now s = subst (λ (ls : List ℕ). HoldAs g ls s) (sym c.as_slice-state.ensures.value) c.requires.leaves.latches in
    let h1 : Graph = c.add_step.new.gates in
    let before : IsStep h1 a x s c.in_ok-before.before = c.in_ok-before.ensures.step x s of_inputs of_state in
    let h2 : Graph = c.add_image.new.gates in
    let image : IsImage h2 m s c.in_ok-image.image = c.in_ok-image.ensures.image s (holds-grow g h1 c.as_slice-state.result.now s c.in_ok-before.ensures.extends of_state) in
    let later_state : Held = λ z u. after_step a.aig z (s z u) in
    let of_nexts : HoldAs h2 c.as_slice.result.now later_state =
    subst (λ (ls : List ℕ). HoldAs h2 ls later_state) (sym c.as_slice.ensures.value) (holds-grow h1 h2 c.in_ok-before.before.nexts.items later_state c.in_ok-image.ensures.extends before.nexts) in
    let h3 : Graph = c.add_image-2.new.gates in
    let later : IsImage h3 m later_state c.in_ok-later.later = c.in_ok-later.ensures.image later_state of_nexts in
    let given : Held = λ z u. mapped m (s z u) in
    let of_outputs : HoldAs h3 c.as_slice-2.result.now given =
    subst (λ (ls : List ℕ). HoldAs h3 ls given) (sym c.as_slice-2.ensures.value) (holds-grow h2 h3 c.in_ok-image.image.outputs.items given c.in_ok-later.ensures.extends image.outputs) in
    of_outputs.within

pub returns-clause-sides : goal.returns-clause-sides
returns-clause-sides c =
    let g : Graph = c.args.gates.now in
    let a : Netlist = c.args.first.now in
    let m : Netlist = c.args.map.now in
    let d : Netlist = c.args.second.now in
    let x : Held = asked_digits in
    let s : Held = asked_state a.aig in
    let of_inputs : HoldAs g c.as_slice-inputs.result.now x = subst (λ (ls : List ℕ). HoldAs g ls x) (sym c.as_slice-inputs.ensures.value) c.requires.leaves.inputs in
    let of_state : HoldAs g c.as_slice-state.result.now s = subst (λ (ls : List ℕ). HoldAs g ls s) (sym c.as_slice-state.ensures.value) c.requires.leaves.latches in
    let h1 : Graph = c.add_step.new.gates in
    let before : IsStep h1 a x s c.in_ok-before.before = c.in_ok-before.ensures.step x s of_inputs of_state in
    let h2 : Graph = c.add_image.new.gates in
    let image : IsImage h2 m s c.in_ok-image.image = c.in_ok-image.ensures.image s (holds-grow g h1 c.as_slice-state.result.now s c.in_ok-before.ensures.extends of_state) in
    let later_state : Held = λ z u. after_step a.aig z (s z u) in
    let of_nexts : HoldAs h2 c.as_slice.result.now later_state =
    subst (λ (ls : List ℕ). HoldAs h2 ls later_state) (sym c.as_slice.ensures.value) (holds-grow h1 h2 c.in_ok-before.before.nexts.items later_state c.in_ok-image.ensures.extends before.nexts) in
    let h3 : Graph = c.add_image-2.new.gates in
    let later : IsImage h3 m later_state c.in_ok-later.later = c.in_ok-later.ensures.image later_state of_nexts in
    let given : Held = λ z u. mapped m (s z u) in
    let of_outputs : HoldAs h3 c.as_slice-2.result.now given =
    subst (λ (ls : List ℕ). HoldAs h3 ls given) (sym c.as_slice-2.ensures.value) (holds-grow h2 h3 c.in_ok-image.image.outputs.items given c.in_ok-later.ensures.extends image.outputs) in
    let h4 : Graph = c.add_step-2.new.gates in
    let more = extends-transitive g h1 h3 c.in_ok-before.ensures.extends (extends-transitive h1 h2 h3 c.in_ok-image.ensures.extends c.in_ok-later.ensures.extends) in
    let after : IsStep h4 d x given c.in_ok-after.after = c.in_ok-after.ensures.step x given (holds-grow g h3 c.as_slice-inputs.result.now x more of_inputs) of_outputs in
    sides-are h1 h2 h3 h4 a d m (record { before = c.in_ok-before.before; image = c.in_ok-image.image; later = c.in_ok-later.later; after = c.in_ok-after.after })
    c.in_ok-image.ensures.extends c.in_ok-later.ensures.extends c.in_ok-after.ensures.extends before image later after

pub returns-clause-extends : goal.returns-clause-extends
returns-clause-extends c =
    let g : Graph = c.args.gates.now in
    let h1 : Graph = c.add_step.new.gates in
    let h2 : Graph = c.add_image.new.gates in
    let h3 : Graph = c.add_image-2.new.gates in
    let h4 : Graph = c.add_step-2.new.gates in
    extends-transitive g h3 h4 (extends-transitive g h2 h3 (extends-transitive g h1 h2 c.in_ok-before.ensures.extends c.in_ok-image.ensures.extends) c.in_ok-later.ensures.extends) c.in_ok-after.ensures.extends

pub add_step-requires-clause-graph : goal.add_step-requires-clause-graph
add_step-requires-clause-graph c = c.requires.graph

pub add_step-requires-clause-wide : goal.add_step-requires-clause-wide
add_step-requires-clause-wide c = ap (λ (ls : List ℕ). length ls) c.as_slice-inputs.ensures.value ∙ c.requires.leaves.wide

pub add_step-requires-clause-long : goal.add_step-requires-clause-long
add_step-requires-clause-long c = ap (λ (ls : List ℕ). length ls) c.as_slice-state.ensures.value ∙ c.requires.leaves.long

pub add_step-requires-clause-inputs : goal.add_step-requires-clause-inputs
add_step-requires-clause-inputs c = subst (λ (ls : List ℕ). AreLiteralsOf c.args.gates.now ls) (sym c.as_slice-inputs.ensures.value) c.requires.leaves.inputs.within

pub add_step-requires-clause-state : goal.add_step-requires-clause-state
add_step-requires-clause-state c = subst (λ (ls : List ℕ). AreLiteralsOf c.args.gates.now ls) (sym c.as_slice-state.ensures.value) c.requires.leaves.latches.within

pub add_image-requires-clause-graph : goal.add_image-requires-clause-graph
add_image-requires-clause-graph c = c.in_ok-before.ensures.extends.graph

pub add_image-requires-clause-wide : goal.add_image-requires-clause-wide
add_image-requires-clause-wide c = ap (λ (ls : List ℕ). length ls) c.as_slice-state.ensures.value ∙ c.requires.leaves.long ∙ sym c.requires.askable.inputs

pub add_image-requires-clause-latches : goal.add_image-requires-clause-latches
add_image-requires-clause-latches c = c.requires.askable.latches

pub add_image-requires-clause-state : goal.add_image-requires-clause-state
add_image-requires-clause-state c = subst (λ (ls : List ℕ). AreLiteralsOf c.add_step.new.gates ls) (sym c.as_slice-state.ensures.value) (λ k d less. c.in_ok-before.ensures.extends.literals _ (c.requires.leaves.latches.within k d less))

pub add_image-requires-2-clause-graph : goal.add_image-requires-2-clause-graph
add_image-requires-2-clause-graph c = c.in_ok-image.ensures.extends.graph

pub add_image-requires-2-clause-latches : goal.add_image-requires-2-clause-latches
add_image-requires-2-clause-latches c = c.requires.askable.latches

pub add_step-requires-2-clause-graph : goal.add_step-requires-2-clause-graph
add_step-requires-2-clause-graph c = c.in_ok-later.ensures.extends.graph

pub add_step-requires-2-clause-inputs : goal.add_step-requires-2-clause-inputs
add_step-requires-2-clause-inputs c =
    subst (λ (ls : List ℕ). AreLiteralsOf c.add_image-2.new.gates ls) (sym c.as_slice-inputs.ensures.value) (λ k d less. c.in_ok-later.ensures.extends.literals _ (c.in_ok-image.ensures.extends.literals _ (c.in_ok-before.ensures.extends.literals _ (c.requires.leaves.inputs.within k d less))))
