use Rattle.map_miters.proofs.LeafLaws.{latches-stay}
use Rattle.std.proofs.Common.{ℕ, ◌<◌, ◌≡◌, ◌∙◌, ◌+◌, List, Some, arith, ap, get_or, length, refl, slice_get, subst, sym, true}
use Rattle.std.proofs.lemmas.Option.{slice_get_read}
use Rattle.aig_graph.specs.declared.graph.Latch.{Latch}
use Rattle.aig_graph.specs.declared.properties.Props.{Props}
use Rattle.aig_graph.specs.Circuits.{Netlist}
use Rattle.aig_graph.specs.Graph.{Graph}
use Rattle.map_circuits.specs.Growing.{Extends}
use Rattle.map_circuits.proofs.ConstrainingLaws.{read-entry}
use Rattle.map_circuits.proofs.GrowingLaws.{extends-itself, extends-transitive}
use Rattle.state_maps.specs.MapCircuits.{IsFreeInput}
use Rattle.map_miters.specs.Ties.{AreTies}
use Rattle.map_miters.proofs.TieLaws.{free-each, ties-more, ties-none, ties-skip}
use Rattle.map_miters.proofs.ties.add_ties.Goals as goal
use Rattle.map_miters.proofs.ties.add_ties.Goals.{then-is_free+in_ok-tie+in_ok-push, else-is_free}

pub loop-place-init : goal.loop-place-init
loop-place-init c = record {
  extends = extends-itself c.args.gates.now c.requires.graph;
  ties = subst (λ (ls : List ℕ). AreTies c.args.gates.now c.args.first.now c.args.second.now c.args.map.now 0 ls) (sym c.new-ties.ensures.items)
      (ties-none c.args.first.now c.args.second.now c.args.map.now c.args.gates.now);
}

pub add_tie-requires-clause-free : goal.add_tie-requires-clause-free
add_tie-requires-clause-free c =
    let a : Netlist = c.args.first.now in
    let d : Netlist = c.args.second.now in
    let m : Netlist = c.args.map.now in
    let latches : List Latch = d.aig.latches in
    let k : ℕ = c.loop-place.place in
    let latch : Latch = c.index-latches-place.result in
    let of_latches : c.latches-latches.result.now ≡ d.aig.latches = c.latches-latches.ensures.value ∙ ap (λ (h : Graph). h.latches) c.aig.ensures.value in
    let here : slice_get c.latches-latches.result.now k ≡ Some latch =
    slice_get_read c.latches-latches.result.now (length c.latches-latches.result.now) k latch refl c.loop-place-test.true c.index-latches-place.is in
    let there : slice_get latches k ≡ Some latch = ap (λ (ls : List Latch). slice_get ls k) (sym of_latches) ∙ here in
    let less : k < length latches = omega (arith, c.loop-place-test.true, ap (λ (ls : List Latch). length ls) of_latches) in
    let outputs : List ℕ = m.props.outputs in
    let of_outputs : c.as_slice-outputs.result.now ≡ m.props.outputs = c.as_slice-outputs.ensures ∙ ap (λ (p : Props). p.outputs) c.props.ensures.value in
    let many : k < length outputs = omega (arith, less, c.requires.askable.outputs) in
    let short : k < length c.as_slice-outputs.result.now = omega (arith, many, ap (λ (ls : List ℕ). length ls) of_outputs) in
    let read : c.index-outputs-place.result ≡ get_or m.props.outputs k 0 =
    read-entry c.as_slice-outputs.result.now k c.index-outputs-place.result short c.index-outputs-place.is ∙ ap (λ (ls : List ℕ). get_or ls k 0) of_outputs in
    subst (λ (l : ℕ). IsFreeInput a.aig l) (sym read) (free-each (IsFreeInput a.aig) latches outputs k latch c.requires.tied.stay.are there (sym c.is_free.ensures ∙ c.if-is_free.true) many)

pub loop-place-preserved : goal.loop-place-preserved
loop-place-preserved c =
    let a : Netlist = c.args.first.now in
    let d : Netlist = c.args.second.now in
    let m : Netlist = c.args.map.now in
    let latches : List Latch = d.aig.latches in
    let k : ℕ = c.loop-place.place in
    let latch : Latch = c.index-latches-place.result in
    let of_latches : c.latches-latches.result.now ≡ d.aig.latches = c.latches-latches.ensures.value ∙ ap (λ (h : Graph). h.latches) c.aig.ensures.value in
    let here : slice_get c.latches-latches.result.now k ≡ Some latch =
    slice_get_read c.latches-latches.result.now (length c.latches-latches.result.now) k latch refl c.loop-place-test.true c.index-latches-place.is in
    let there : slice_get latches k ≡ Some latch = ap (λ (ls : List Latch). slice_get ls k) (sym of_latches) ∙ here in
    let less : k < length latches = omega (arith, c.loop-place-test.true, ap (λ (ls : List Latch). length ls) of_latches) in
    let g : Graph = c.args.gates.now in
    let old : Graph = c.loop-place.gates in
    elim c.if-is_free.branch [
      | then-is_free+in_ok-tie+in_ok-push w ↦ (
          let h : Graph = w.add_tie.new.gates in
          let pushed = ap (λ (v : _). v.items) w.ties-is ∙ w.in_ok-push.ensures.items in
          let ties : AreTies h a d m (k + 1) c.if-is_free.ties.items =
          ties-more a d m old h k w.in_ok-tie.tie latch c.loop-place.ties.items c.if-is_free.ties.items there (sym c.is_free.ensures ∙ w.if-is_free.true) w.in_ok-tie.ensures.extends
          c.loop-place.invariant.ties w.in_ok-tie.ensures.says pushed in
          record {
            extends = subst (λ (i : Graph). Extends g i) (sym w.gates-is) (extends-transitive g old h c.loop-place.invariant.extends w.in_ok-tie.ensures.extends);
            ties = subst (λ (i : Graph). AreTies i a d m (k + 1) c.if-is_free.ties.items) (sym w.gates-is) ties;
          })
      | else-is_free w ↦ (
          let kept : AreTies old a d m (k + 1) c.loop-place.ties.items = ties-skip a d m old k latch c.loop-place.ties.items there (sym c.is_free.ensures ∙ w.if-is_free.false) c.loop-place.invariant.ties in
          record {
            extends = subst (λ (i : Graph). Extends g i) (sym w.gates-is) c.loop-place.invariant.extends;
            ties = subst (λ (ls : List ℕ). AreTies c.if-is_free.gates a d m (k + 1) ls) (ap (λ (v : _). v.items) (sym w.ties-is))
                (subst (λ (i : Graph). AreTies i a d m (k + 1) c.loop-place.ties.items) (sym w.gates-is) kept);
          })
    ]

pub bounds-latches-place : goal.bounds-latches-place
bounds-latches-place c = c.loop-place-test.true

pub bounds-outputs-place : goal.bounds-outputs-place
bounds-outputs-place c =
    let latches : List Latch = c.args.second.now.aig.latches in
    let k : ℕ = c.loop-place.place in
    let of_latches : c.latches-latches.result.now ≡ latches = c.latches-latches.ensures.value ∙ ap (λ (h : Graph). h.latches) c.aig.ensures.value in
    let less : k < length latches = omega (arith, c.loop-place-test.true, ap (λ (ls : List Latch). length ls) of_latches) in
    let outputs : List ℕ = c.args.map.now.props.outputs in
    let of_outputs : c.as_slice-outputs.result.now ≡ outputs = c.as_slice-outputs.ensures ∙ ap (λ (p : Props). p.outputs) c.props.ensures.value in
    let short : k < length c.as_slice-outputs.result.now = omega (arith, less, c.requires.askable.outputs, ap (λ (ls : List ℕ). length ls) of_outputs) in
    short

pub add_tie-requires-clause-graph : goal.add_tie-requires-clause-graph
add_tie-requires-clause-graph c = c.loop-place.invariant.extends.graph

pub add_tie-requires-clause-askable : goal.add_tie-requires-clause-askable
add_tie-requires-clause-askable c = c.requires.askable

pub add_tie-requires-clause-latches : goal.add_tie-requires-clause-latches
add_tie-requires-clause-latches c =
    latches-stay c.args.first.now.aig c.args.second.now.aig c.args.gates.now c.loop-place.gates true c.loop-place.invariant.extends c.requires.latches

pub add_tie-requires-clause-place : goal.add_tie-requires-clause-place
add_tie-requires-clause-place c =
    let latches : List Latch = c.args.second.now.aig.latches in
    let k : ℕ = c.loop-place.place in
    let of_latches : c.latches-latches.result.now ≡ latches = c.latches-latches.ensures.value ∙ ap (λ (h : Graph). h.latches) c.aig.ensures.value in
    let less : k < length latches = omega (arith, c.loop-place-test.true, ap (λ (ls : List Latch). length ls) of_latches) in
    less

pub add_tie-requires-clause-output : goal.add_tie-requires-clause-output
add_tie-requires-clause-output c =
    let latches : List Latch = c.args.second.now.aig.latches in
    let k : ℕ = c.loop-place.place in
    let of_latches : c.latches-latches.result.now ≡ latches = c.latches-latches.ensures.value ∙ ap (λ (h : Graph). h.latches) c.aig.ensures.value in
    let less : k < length latches = omega (arith, c.loop-place-test.true, ap (λ (ls : List Latch). length ls) of_latches) in
    let outputs : List ℕ = c.args.map.now.props.outputs in
    let of_outputs : c.as_slice-outputs.result.now ≡ outputs = c.as_slice-outputs.ensures ∙ ap (λ (p : Props). p.outputs) c.props.ensures.value in
    let short : k < length c.as_slice-outputs.result.now = omega (arith, less, c.requires.askable.outputs, ap (λ (ls : List ℕ). length ls) of_outputs) in
    read-entry c.as_slice-outputs.result.now k c.index-outputs-place.result short c.index-outputs-place.is ∙ ap (λ (ls : List ℕ). get_or ls k 0) of_outputs

pub returns-clause-extends : goal.returns-clause-extends
returns-clause-extends c = c.loop-place.invariant.extends

pub returns-clause-ties : goal.returns-clause-ties
returns-clause-ties c =
    let of_latches : c.latches-latches.result.now ≡ c.args.second.now.aig.latches = c.latches-latches.ensures.value ∙ ap (λ (h : Graph). h.latches) c.aig.ensures.value in
    let end : c.loop-place.place ≡ length c.args.second.now.aig.latches = omega (arith, c.loop-place-test.false, c.loop-place.auto, ap (λ (ls : List Latch). length ls) of_latches) in
    subst (λ (n : ℕ). AreTies c.loop-place.gates c.args.first.now c.args.second.now c.args.map.now n c.loop-place.ties.items) end c.loop-place.invariant.ties
