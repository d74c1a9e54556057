use Rattle.std.proofs.Common.{ℕ, List, ◌≡◌, ◌<◌, ◌∙◌, ◌+◌, arith, ap, sym, subst, length, Option}
use Rattle.std.proofs.Math.Seq.{take-length}
use Rattle.std.proofs.lemmas.List.{length-map}
use Rattle.aig_graph.specs.declared.graph.Latch.{Latch}
use Rattle.aig_graph.specs.declared.graph.Reset.{Reset}
use Rattle.aig_graph.specs.Building.{without_gates}
use Rattle.aig_graph.specs.Circuits.{AreLiteralsOf, Netlist}
use Rattle.aig_graph.specs.Graph.{Graph, IsGraph, variable, variables_end}
use Rattle.aig_graph.proofs.GraphLaws.{all_from_slice_get}
use Rattle.map_circuits.proofs.GrowingLaws.{extends-transitive}
use Rattle.witness_circuits.specs.declared.sharing.Sharing.{Sharing}
use Rattle.witness_circuits.specs.Joining.{own_count}
use Rattle.witness_circuits.specs.declared.parts.Parts.{Parts}
use Rattle.witness_circuits.specs.Built.{IsFilled}
use Rattle.witness_circuits.specs.Latches.{with_nexts}
use Rattle.witness_circuits.specs.Parts.{AreParts, both_nexts, both_resets}
use Rattle.witness_circuits.proofs.BuildLaws.{is-filled, length-both_resets, nexts-long, nexts-within}
use Rattle.witness_circuits.proofs.PropertyLaws.{parts-grow}
use Rattle.witness_circuits.proofs.building.filled.Goals as goal

pub own_count-own_inputs-requires : goal.own_count-own_inputs-requires
own_count-own_inputs-requires c =
    omega (arith, ap (λ (ls : List (Option ℕ)). length ls) c.as_slice.ensures, c.requires.fits.shares.inputs, c.known-3.ensures.graph.small)

pub add_parts-requires-clause-at : goal.add_parts-requires-clause-at
add_parts-requires-clause-at c =
    omega (arith, c.first_latch.ensures.value, ap (λ (g : Graph). g.inputs) c.aig-circuit.ensures.value, c.own_count-own_inputs.ensures.value, ap own_count c.as_slice.ensures, ap (λ (g : Graph). g.inputs) c.requires.begun)

pub add_parts-requires-clause-places : goal.add_parts-requires-clause-places
add_parts-requires-clause-places c =
    let own : List Latch = c.args.own.now in
    let g : Graph = c.args.first.now.aig in
    let many : length (both_resets g.latches own) ≡ length g.latches + length own = length-both_resets g.latches own in
    record {
      inputs = ap (λ (h : Graph). h.inputs) c.requires.begun;
      latches = ap (λ (h : Graph). length h.latches) c.requires.begun
          ∙ length-map (both_resets g.latches own) (λ (r : Reset). record { next = 0; reset = r })
          ∙ many ∙ ap (λ (n : ℕ). length g.latches + n) (c.requires.own.many ∙ ap own_count (take-length c.args.sharing.now.latches));
    }

pub nexts_of-requires-clause-first : goal.nexts_of-requires-clause-first
nexts_of-requires-clause-first c = c.in_ok-parts.ensures.parts.first.many ∙ sym (ap (λ (g : Graph). variables_end g) c.aig-circuit.ensures.value)

pub nexts_of-requires-clause-own : goal.nexts_of-requires-clause-own
nexts_of-requires-clause-own c =
    let w : Netlist = c.args.witness.now in
    all_from_slice_get (λ (l : Latch). variable l.next < length c.in_ok-parts.parts.witness) c.args.own.now (λ q latch there.
    let from = c.requires.own.from q latch there in
    omega (arith, c.known-3.ensures.graph.latches from.0 latch from.1, c.in_ok-parts.ensures.parts.witness.many))

pub set_nexts-requires-clause-many : goal.set_nexts-requires-clause-many
set_nexts-requires-clause-many c =
    let g : Graph = c.args.gates.now in
    let h1 : Graph = c.add_parts.new.gates in
    let h : Graph = c.add_props.new.gates in
    let a : Netlist = c.args.first.now in
    let m : Netlist = c.args.map.now in
    let w : Netlist = c.args.witness.now in
    let k : Sharing = c.args.sharing.now in
    let own : List Latch = c.args.own.now in
    let p : Parts = c.in_ok-parts.parts in
    let more = extends-transitive g h1 h c.in_ok-parts.ensures.extends c.in_ok-props.ensures.extends in
    let parts : AreParts h a m w k p = parts-grow h1 h a m w k p c.in_ok-props.ensures.extends c.in_ok-parts.ensures.parts in
    let inputs : h.inputs ≡ a.aig.inputs + own_count k.inputs = more.inputs ∙ ap (λ (b : Graph). b.inputs) c.requires.begun in
    let latches : h.latches ≡ (without_gates g.inputs (both_resets a.aig.latches own)).latches = more.latches ∙ ap (λ (b : Graph). b.latches) c.requires.begun in
    let nexts : c.as_slice-2.result.now ≡ both_nexts p a.aig.latches own =
    c.as_slice-2.ensures.value ∙ c.in_ok-nexts.ensures ∙ ap (λ (b : Graph). both_nexts p b.latches own) c.aig-circuit.ensures.value in
    ap (λ (ls : List ℕ). length ls) nexts ∙ nexts-long g h a m w k p own c.in_ok-props.props c.known.ensures.graph c.known-3.ensures.graph c.requires.fits.shares.latches c.requires.own inputs latches more.graph parts c.in_ok-props.ensures.props

pub set_nexts-requires-clause-within : goal.set_nexts-requires-clause-within
set_nexts-requires-clause-within c =
    let g : Graph = c.args.gates.now in
    let h1 : Graph = c.add_parts.new.gates in
    let h : Graph = c.add_props.new.gates in
    let a : Netlist = c.args.first.now in
    let m : Netlist = c.args.map.now in
    let w : Netlist = c.args.witness.now in
    let k : Sharing = c.args.sharing.now in
    let own : List Latch = c.args.own.now in
    let p : Parts = c.in_ok-parts.parts in
    let more = extends-transitive g h1 h c.in_ok-parts.ensures.extends c.in_ok-props.ensures.extends in
    let parts : AreParts h a m w k p = parts-grow h1 h a m w k p c.in_ok-props.ensures.extends c.in_ok-parts.ensures.parts in
    let inputs : h.inputs ≡ a.aig.inputs + own_count k.inputs = more.inputs ∙ ap (λ (b : Graph). b.inputs) c.requires.begun in
    let latches : h.latches ≡ (without_gates g.inputs (both_resets a.aig.latches own)).latches = more.latches ∙ ap (λ (b : Graph). b.latches) c.requires.begun in
    let nexts : c.as_slice-2.result.now ≡ both_nexts p a.aig.latches own =
    c.as_slice-2.ensures.value ∙ c.in_ok-nexts.ensures ∙ ap (λ (b : Graph). both_nexts p b.latches own) c.aig-circuit.ensures.value in
    subst (λ (ls : List ℕ). AreLiteralsOf h ls) (sym nexts) (nexts-within g h a m w k p own c.in_ok-props.props c.known.ensures.graph c.known-3.ensures.graph c.requires.fits.shares.latches c.requires.own inputs latches more.graph parts c.in_ok-props.ensures.props)

pub set_nexts-requires-clause-graph : goal.set_nexts-requires-clause-graph
set_nexts-requires-clause-graph c = c.in_ok-props.ensures.extends.graph

pub returns : goal.returns
returns c =
    let g : Graph = c.args.gates.now in
    let h1 : Graph = c.add_parts.new.gates in
    let h : Graph = c.add_props.new.gates in
    let a : Netlist = c.args.first.now in
    let m : Netlist = c.args.map.now in
    let w : Netlist = c.args.witness.now in
    let k : Sharing = c.args.sharing.now in
    let own : List Latch = c.args.own.now in
    let p : Parts = c.in_ok-parts.parts in
    let more = extends-transitive g h1 h c.in_ok-parts.ensures.extends c.in_ok-props.ensures.extends in
    let parts : AreParts h a m w k p = parts-grow h1 h a m w k p c.in_ok-props.ensures.extends c.in_ok-parts.ensures.parts in
    let inputs : h.inputs ≡ a.aig.inputs + own_count k.inputs = more.inputs ∙ ap (λ (b : Graph). b.inputs) c.requires.begun in
    let latches : h.latches ≡ (without_gates g.inputs (both_resets a.aig.latches own)).latches = more.latches ∙ ap (λ (b : Graph). b.latches) c.requires.begun in
    let nexts : c.as_slice-2.result.now ≡ both_nexts p a.aig.latches own =
    c.as_slice-2.ensures.value ∙ c.in_ok-nexts.ensures ∙ ap (λ (b : Graph). both_nexts p b.latches own) c.aig-circuit.ensures.value in
    let ended : Graph = record h { latches = with_nexts (both_nexts p a.aig.latches own) h.latches } in
    let same : c.set_nexts.new.gates ≡ ended = c.set_nexts.ensures.is ∙ ap (λ (ns : List ℕ). record h { latches = with_nexts ns h.latches }) nexts in
    let last : IsGraph ended = subst (λ (b : Graph). IsGraph b) same c.set_nexts.ensures.graph in
    subst (λ (b : Graph). IsFilled b a m w k c.in_ok-props.props) (sym same) (is-filled g h a m w k p own c.in_ok-props.props c.known.ensures.graph c.known-3.ensures.graph c.requires.fits.shares.latches c.requires.own inputs latches more.graph parts c.in_ok-props.ensures.props last)

pub add_parts-requires-clause-graph : goal.add_parts-requires-clause-graph
add_parts-requires-clause-graph c = c.requires.graph

pub add_parts-requires-clause-fits : goal.add_parts-requires-clause-fits
add_parts-requires-clause-fits c = c.requires.fits

pub add_props-requires-clause-graph : goal.add_props-requires-clause-graph
add_props-requires-clause-graph c = c.in_ok-parts.ensures.extends.graph

pub add_props-requires-clause-parts : goal.add_props-requires-clause-parts
add_props-requires-clause-parts c = c.in_ok-parts.ensures.parts
