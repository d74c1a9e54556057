use Rattle.map_circuits.proofs.GrowingLaws.{extends-transitive}
use Rattle.std.proofs.Common.{ℕ, ◌≡◌, ◌∙◌, List, ap, length, refl, slice_get, sym, subst}
use Rattle.aig_graph.specs.declared.graph.Latch.{Latch}
use Rattle.aig_graph.specs.Circuits.{Netlist, AreLiteralsOf}
use Rattle.aig_graph.specs.Graph.{Graph}
use Rattle.state_maps.specs.MapCircuits.{mapped}
use Rattle.map_miters.specs.Asking.{asked_state}
use Rattle.map_miters.specs.Comparing.{AreEqualIn, SaysThat}
use Rattle.map_miters.specs.Holding.{Held, HoldAs, IsImage, reset_at, reset_state}
use Rattle.map_miters.proofs.ResetLaws.{begins-says, firsts-hold, never-begins, starts-hold, stays, stays-not}
use Rattle.map_miters.proofs.questions.add_reset_failure.Goals as goal

pub resets_of-requires : goal.resets_of-requires
resets_of-requires c =
    ap (λ (ls : List ℕ). length ls) c.as_slice.ensures.value ∙ c.requires.leaves.long
    ∙ sym (ap (λ (ls : List Latch). length ls) (c.latches.ensures.value ∙ ap (λ (h : Graph). h.latches) c.aig.ensures.value))

pub add_image-requires-clause-wide : goal.add_image-requires-clause-wide
add_image-requires-clause-wide c =
    ap (λ (ls : List ℕ). length ls) c.as_slice-2.ensures.value ∙ c.in_ok-starts.ensures.many
    ∙ ap (λ (ls : List Latch). length ls) (c.latches.ensures.value ∙ ap (λ (h : Graph). h.latches) c.aig.ensures.value) ∙ sym c.requires.askable.inputs

pub add_image-requires-clause-state : goal.add_image-requires-clause-state
add_image-requires-clause-state c =
    let g : Graph = c.args.gates.now in
    let a : Netlist = c.args.first.now in
    let m : Netlist = c.args.map.now in
    let d : Netlist = c.args.second.now in
    let of_latches : c.latches.result.now ≡ a.aig.latches = c.latches.ensures.value ∙ ap (λ (h : Graph). h.latches) c.aig.ensures.value in
    let starts : HoldAs g c.in_ok-starts.starts.items (λ z u. reset_state a.aig (asked_state a.aig z u)) =
    starts-hold g a.aig c.args.leaves.now c.latches.result.now c.as_slice.result.now c.in_ok-starts.starts.items c.requires.graph c.requires.leaves of_latches c.as_slice.ensures.value c.in_ok-starts.ensures in
    let state : HoldAs g c.as_slice-2.result.now (λ z u. reset_state a.aig (asked_state a.aig z u)) =
    subst (λ (ls : List ℕ). HoldAs g ls (λ z u. reset_state a.aig (asked_state a.aig z u))) (sym c.as_slice-2.ensures.value) starts in
    state.within

pub resets_of-requires-2 : goal.resets_of-requires-2
resets_of-requires-2 c =
    let g : Graph = c.args.gates.now in
    let a : Netlist = c.args.first.now in
    let m : Netlist = c.args.map.now in
    let d : Netlist = c.args.second.now in
    let of_latches : c.latches.result.now ≡ a.aig.latches = c.latches.ensures.value ∙ ap (λ (h : Graph). h.latches) c.aig.ensures.value in
    let starts : HoldAs g c.in_ok-starts.starts.items (λ z u. reset_state a.aig (asked_state a.aig z u)) =
    starts-hold g a.aig c.args.leaves.now c.latches.result.now c.as_slice.result.now c.in_ok-starts.starts.items c.requires.graph c.requires.leaves of_latches c.as_slice.ensures.value c.in_ok-starts.ensures in
    let state : HoldAs g c.as_slice-2.result.now (λ z u. reset_state a.aig (asked_state a.aig z u)) =
    subst (λ (ls : List ℕ). HoldAs g ls (λ z u. reset_state a.aig (asked_state a.aig z u))) (sym c.as_slice-2.ensures.value) starts in
    let h1 : Graph = c.add_image.new.gates in
    let t : Held = λ z u. reset_state a.aig (asked_state a.aig z u) in
    let image : IsImage h1 m t c.in_ok-image.image = c.in_ok-image.ensures.image t state in
    ap (λ (ls : List ℕ). length ls) c.as_slice-outputs.ensures.value ∙ image.many ∙ c.requires.askable.outputs
    ∙ sym (ap (λ (ls : List Latch). length ls) (c.latches-2.ensures.value ∙ ap (λ (h : Graph). h.latches) c.aig-2.ensures.value))

pub add_each_equal-requires-clause-long : goal.add_each_equal-requires-clause-long
add_each_equal-requires-clause-long c =
    let g : Graph = c.args.gates.now in
    let a : Netlist = c.args.first.now in
    let m : Netlist = c.args.map.now in
    let d : Netlist = c.args.second.now in
    let of_latches : c.latches.result.now ≡ a.aig.latches = c.latches.ensures.value ∙ ap (λ (h : Graph). h.latches) c.aig.ensures.value in
    let starts : HoldAs g c.in_ok-starts.starts.items (λ z u. reset_state a.aig (asked_state a.aig z u)) =
    starts-hold g a.aig c.args.leaves.now c.latches.result.now c.as_slice.result.now c.in_ok-starts.starts.items c.requires.graph c.requires.leaves of_latches c.as_slice.ensures.value c.in_ok-starts.ensures in
    let state : HoldAs g c.as_slice-2.result.now (λ z u. reset_state a.aig (asked_state a.aig z u)) =
    subst (λ (ls : List ℕ). HoldAs g ls (λ z u. reset_state a.aig (asked_state a.aig z u))) (sym c.as_slice-2.ensures.value) starts in
    let h1 : Graph = c.add_image.new.gates in
    let t : Held = λ z u. reset_state a.aig (asked_state a.aig z u) in
    let image : IsImage h1 m t c.in_ok-image.image = c.in_ok-image.ensures.image t state in
    let of_second : c.latches-2.result.now ≡ d.aig.latches = c.latches-2.ensures.value ∙ ap (λ (h : Graph). h.latches) c.aig-2.ensures.value in
    let firsts : HoldAs h1 c.in_ok-firsts.firsts.items (λ z u. λ j. reset_at (mapped m (t z u) j) (slice_get d.aig.latches j)) =
    firsts-hold h1 d m t c.in_ok-image.image c.latches-2.result.now c.as_slice-outputs.result.now c.in_ok-firsts.firsts.items c.in_ok-image.ensures.extends.graph image c.requires.askable.outputs of_second
    c.as_slice-outputs.ensures.value c.in_ok-firsts.ensures in
    let long : length c.in_ok-firsts.firsts.items ≡ length d.aig.latches = c.in_ok-firsts.ensures.many ∙ ap (λ (ls : List Latch). length ls) of_second in
    ap (λ (ls : List ℕ). length ls) c.as_slice-outputs.ensures.value ∙ image.many ∙ c.requires.askable.outputs ∙ sym (ap (λ (ls : List ℕ). length ls) c.as_slice-3.ensures.value ∙ long)

pub add_each_equal-requires-clause-a : goal.add_each_equal-requires-clause-a
add_each_equal-requires-clause-a c =
    let g : Graph = c.args.gates.now in
    let a : Netlist = c.args.first.now in
    let m : Netlist = c.args.map.now in
    let d : Netlist = c.args.second.now in
    let of_latches : c.latches.result.now ≡ a.aig.latches = c.latches.ensures.value ∙ ap (λ (h : Graph). h.latches) c.aig.ensures.value in
    let starts : HoldAs g c.in_ok-starts.starts.items (λ z u. reset_state a.aig (asked_state a.aig z u)) =
    starts-hold g a.aig c.args.leaves.now c.latches.result.now c.as_slice.result.now c.in_ok-starts.starts.items c.requires.graph c.requires.leaves of_latches c.as_slice.ensures.value c.in_ok-starts.ensures in
    let state : HoldAs g c.as_slice-2.result.now (λ z u. reset_state a.aig (asked_state a.aig z u)) =
    subst (λ (ls : List ℕ). HoldAs g ls (λ z u. reset_state a.aig (asked_state a.aig z u))) (sym c.as_slice-2.ensures.value) starts in
    let h1 : Graph = c.add_image.new.gates in
    let t : Held = λ z u. reset_state a.aig (asked_state a.aig z u) in
    let image : IsImage h1 m t c.in_ok-image.image = c.in_ok-image.ensures.image t state in
    subst (λ (ls : List ℕ). AreLiteralsOf h1 ls) (sym c.as_slice-outputs.ensures.value) image.outputs.within

pub add_each_equal-requires-clause-b : goal.add_each_equal-requires-clause-b
add_each_equal-requires-clause-b c =
    let g : Graph = c.args.gates.now in
    let a : Netlist = c.args.first.now in
    let m : Netlist = c.args.map.now in
    let d : Netlist = c.args.second.now in
    let of_latches : c.latches.result.now ≡ a.aig.latches = c.latches.ensures.value ∙ ap (λ (h : Graph). h.latches) c.aig.ensures.value in
    let starts : HoldAs g c.in_ok-starts.starts.items (λ z u. reset_state a.aig (asked_state a.aig z u)) =
    starts-hold g a.aig c.args.leaves.now c.latches.result.now c.as_slice.result.now c.in_ok-starts.starts.items c.requires.graph c.requires.leaves of_latches c.as_slice.ensures.value c.in_ok-starts.ensures in
    let state : HoldAs g c.as_slice-2.result.now (λ z u. reset_state a.aig (asked_state a.aig z u)) =
    subst (λ (ls : List ℕ). HoldAs g ls (λ z u. reset_state a.aig (asked_state a.aig z u))) (sym c.as_slice-2.ensures.value) starts in
    let h1 : Graph = c.add_image.new.gates in
    let t : Held = λ z u. reset_state a.aig (asked_state a.aig z u) in
    let image : IsImage h1 m t c.in_ok-image.image = c.in_ok-image.ensures.image t state in
    let of_second : c.latches-2.result.now ≡ d.aig.latches = c.latches-2.ensures.value ∙ ap (λ (h : Graph). h.latches) c.aig-2.ensures.value in
    let firsts : HoldAs h1 c.in_ok-firsts.firsts.items (λ z u. λ j. reset_at (mapped m (t z u) j) (slice_get d.aig.latches j)) =
    firsts-hold h1 d m t c.in_ok-image.image c.latches-2.result.now c.as_slice-outputs.result.now c.in_ok-firsts.firsts.items c.in_ok-image.ensures.extends.graph image c.requires.askable.outputs of_second
    c.as_slice-outputs.ensures.value c.in_ok-firsts.ensures in
    let long : length c.in_ok-firsts.firsts.items ≡ length d.aig.latches = c.in_ok-firsts.ensures.many ∙ ap (λ (ls : List Latch). length ls) of_second in
    subst (λ (ls : List ℕ). AreLiteralsOf h1 ls) (sym c.as_slice-3.ensures.value) firsts.within

pub add_conjunction-requires-clause-a : goal.add_conjunction-requires-clause-a
add_conjunction-requires-clause-a c =
    let g : Graph = c.args.gates.now in
    let a : Netlist = c.args.first.now in
    let m : Netlist = c.args.map.now in
    let d : Netlist = c.args.second.now in
    let of_latches : c.latches.result.now ≡ a.aig.latches = c.latches.ensures.value ∙ ap (λ (h : Graph). h.latches) c.aig.ensures.value in
    let starts : HoldAs g c.in_ok-starts.starts.items (λ z u. reset_state a.aig (asked_state a.aig z u)) =
    starts-hold g a.aig c.args.leaves.now c.latches.result.now c.as_slice.result.now c.in_ok-starts.starts.items c.requires.graph c.requires.leaves of_latches c.as_slice.ensures.value c.in_ok-starts.ensures in
    let state : HoldAs g c.as_slice-2.result.now (λ z u. reset_state a.aig (asked_state a.aig z u)) =
    subst (λ (ls : List ℕ). HoldAs g ls (λ z u. reset_state a.aig (asked_state a.aig z u))) (sym c.as_slice-2.ensures.value) starts in
    let h1 : Graph = c.add_image.new.gates in
    let t : Held = λ z u. reset_state a.aig (asked_state a.aig z u) in
    let image : IsImage h1 m t c.in_ok-image.image = c.in_ok-image.ensures.image t state in
    c.in_ok-equal.ensures.extends.literals c.in_ok-image.image.kept image.within

pub returns-then-branch-clause-reset : goal.returns-then-branch-clause-reset
returns-then-branch-clause-reset c =
    let g : Graph = c.args.gates.now in
    let a : Netlist = c.args.first.now in
    let m : Netlist = c.args.map.now in
    let d : Netlist = c.args.second.now in
    let of_latches : c.latches.result.now ≡ a.aig.latches = c.latches.ensures.value ∙ ap (λ (h : Graph). h.latches) c.aig.ensures.value in
    let starts : HoldAs g c.in_ok-starts.starts.items (λ z u. reset_state a.aig (asked_state a.aig z u)) =
    starts-hold g a.aig c.args.leaves.now c.latches.result.now c.as_slice.result.now c.in_ok-starts.starts.items c.requires.graph c.requires.leaves of_latches c.as_slice.ensures.value c.in_ok-starts.ensures in
    let state : HoldAs g c.as_slice-2.result.now (λ z u. reset_state a.aig (asked_state a.aig z u)) =
    subst (λ (ls : List ℕ). HoldAs g ls (λ z u. reset_state a.aig (asked_state a.aig z u))) (sym c.as_slice-2.ensures.value) starts in
    let h1 : Graph = c.add_image.new.gates in
    let t : Held = λ z u. reset_state a.aig (asked_state a.aig z u) in
    let image : IsImage h1 m t c.in_ok-image.image = c.in_ok-image.ensures.image t state in
    let of_second : c.latches-2.result.now ≡ d.aig.latches = c.latches-2.ensures.value ∙ ap (λ (h : Graph). h.latches) c.aig-2.ensures.value in
    let firsts : HoldAs h1 c.in_ok-firsts.firsts.items (λ z u. λ j. reset_at (mapped m (t z u) j) (slice_get d.aig.latches j)) =
    firsts-hold h1 d m t c.in_ok-image.image c.latches-2.result.now c.as_slice-outputs.result.now c.in_ok-firsts.firsts.items c.in_ok-image.ensures.extends.graph image c.requires.askable.outputs of_second
    c.as_slice-outputs.ensures.value c.in_ok-firsts.ensures in
    let long : length c.in_ok-firsts.firsts.items ≡ length d.aig.latches = c.in_ok-firsts.ensures.many ∙ ap (λ (ls : List Latch). length ls) of_second in
    let h2 : Graph = c.add_each_equal.new.gates in
    let h3 : Graph = c.add_conjunction.new.gates in
    let says : SaysThat h2 c.in_ok-equal.equal (AreEqualIn h1 c.in_ok-image.image.outputs.items c.in_ok-firsts.firsts.items) =
    subst (λ (ls : List ℕ). SaysThat h2 c.in_ok-equal.equal (AreEqualIn h1 c.in_ok-image.image.outputs.items ls)) c.as_slice-3.ensures.value
    (subst (λ (ls : List ℕ). SaysThat h2 c.in_ok-equal.equal (AreEqualIn h1 ls c.as_slice-3.result.now)) c.as_slice-outputs.ensures.value c.in_ok-equal.ensures.equal) in
    begins-says a d m (asked_state a.aig) h1 h2 h3 c.in_ok-image.image c.in_ok-firsts.firsts.items c.in_ok-equal.equal c.in_ok-begins.begins c.not.result c.requires.askable.outputs long image firsts says
    c.in_ok-equal.ensures.extends c.in_ok-begins.ensures.extends c.in_ok-begins.ensures.is c.not.ensures.same_variable c.not.ensures.other_sign
    (stays a d m (asked_state a.aig) c.in_ok-free_stay.field-0 c.in_ok-free_stay.ensures c.if-branch.true)

pub returns-clause-reset : goal.returns-clause-reset
returns-clause-reset c =
    let g : Graph = c.args.gates.now in
    let a : Netlist = c.args.first.now in
    let m : Netlist = c.args.map.now in
    let d : Netlist = c.args.second.now in
    never-begins a d m (asked_state a.aig) c.add_conjunction.new.gates c.in_ok-begins.ensures.extends.graph 1 refl
    (stays-not a d m (asked_state a.aig) c.in_ok-free_stay.field-0 c.in_ok-free_stay.ensures c.if-branch.false)

pub returns-then-branch-clause-extends : goal.returns-then-branch-clause-extends
returns-then-branch-clause-extends c =
    let g : Graph = c.args.gates.now in
    let h1 : Graph = c.add_image.new.gates in
    let h2 : Graph = c.add_each_equal.new.gates in
    let h3 : Graph = c.add_conjunction.new.gates in
    extends-transitive g h2 h3 (extends-transitive g h1 h2 c.in_ok-image.ensures.extends c.in_ok-equal.ensures.extends) c.in_ok-begins.ensures.extends

pub returns-clause-extends : goal.returns-clause-extends
returns-clause-extends c =
    let g : Graph = c.args.gates.now in
    let h1 : Graph = c.add_image.new.gates in
    let h2 : Graph = c.add_each_equal.new.gates in
    let h3 : Graph = c.add_conjunction.new.gates in
    extends-transitive g h2 h3 (extends-transitive g h1 h2 c.in_ok-image.ensures.extends c.in_ok-equal.ensures.extends) c.in_ok-begins.ensures.extends

pub add_image-requires-clause-graph : goal.add_image-requires-clause-graph
add_image-requires-clause-graph c = c.requires.graph

pub add_image-requires-clause-latches : goal.add_image-requires-clause-latches
add_image-requires-clause-latches c = c.requires.askable.latches

pub free_stay-requires : goal.free_stay-requires
free_stay-requires c = c.requires.askable.outputs

pub add_conjunction-requires-clause-graph : goal.add_conjunction-requires-clause-graph
add_conjunction-requires-clause-graph c = c.in_ok-equal.ensures.extends.graph

pub add_conjunction-requires-clause-b : goal.add_conjunction-requires-clause-b
add_conjunction-requires-clause-b c = c.in_ok-equal.ensures.equal.within

pub add_each_equal-requires-clause-graph : goal.add_each_equal-requires-clause-graph
add_each_equal-requires-clause-graph c = c.in_ok-image.ensures.extends.graph
