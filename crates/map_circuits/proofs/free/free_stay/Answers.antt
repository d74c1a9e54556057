use Rattle.std.proofs.Common.{ℕ, ◌≡◌, ◌∙◌, ◌↔◌, IsTrue, List, ap, refl, subst}
use Rattle.std.specs.List.{All}
use Rattle.std.specs.List.Sorted.{IsStrictlyIncreasing}
use Rattle.aig_graph.specs.declared.graph.Latch.{Latch}
use Rattle.aig_graph.specs.declared.properties.Props.{Props}
use Rattle.aig_graph.specs.Circuits.{Netlist}
use Rattle.aig_graph.specs.Graph.{Graph}
use Rattle.state_maps.specs.MapCircuits.{IsFreeInput, free_outputs}
use Rattle.map_circuits.proofs.FreeLaws.{stay-says}
use Rattle.map_circuits.proofs.free.free_stay.Goals as goal

pub returns : goal.returns
returns c =
    let a : Netlist = c.args.first.now in
    let d : Netlist = c.args.second.now in
    let m : Netlist = c.args.map.now in
    let of_latches : c.latches.result.now ≡ d.aig.latches = c.latches.ensures.value ∙ ap (λ (h : Graph). h.latches) c.aig.ensures.value in
    let of_outputs : c.as_slice.result.now ≡ m.props.outputs = c.as_slice.ensures ∙ ap (λ (p : Props). p.outputs) c.props.ensures.value in
    let codes : c.in_ok-codes.codes.items ≡ free_outputs d.aig.latches m.props.outputs =
    c.in_ok-codes.ensures ∙ ap (λ (ls : List Latch). free_outputs ls c.as_slice.result.now) of_latches ∙ ap (λ (ls : List ℕ). free_outputs d.aig.latches ls) of_outputs in
    stay-says a d m c.are_free_inputs-are.result c.do_rise-rising.result _
    (subst (λ (ls : List ℕ). IsTrue c.are_free_inputs-are.result ↔ All (IsFreeInput a.aig) ls) (c.as_slice-2.ensures.value ∙ codes)
    (subst (λ (g : Graph). IsTrue c.are_free_inputs-are.result ↔ All (IsFreeInput g) c.as_slice-2.result.now) c.aig-2.ensures.value c.are_free_inputs-are.ensures))
    (subst (λ (ls : List ℕ). IsTrue c.do_rise-rising.result ↔ IsStrictlyIncreasing ls) codes c.do_rise-rising.ensures) refl
