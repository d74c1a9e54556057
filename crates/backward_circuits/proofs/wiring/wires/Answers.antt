use Rattle.std.proofs.Common.{◌≡◌, ◌∙◌, List, length, ap, sym, subst}
use Rattle.aig_graph.specs.declared.graph.Latch.{Latch}
use Rattle.aig_graph.specs.declared.properties.Symbols.{Symbols}
use Rattle.aig_graph.specs.Circuits.{IsNetlist, Netlist}
use Rattle.aig_graph.specs.Graph.{Graph}
use Rattle.backward_circuits.specs.Drawn.{IsWires}
use Rattle.backward_circuits.proofs.WireLaws.{made-of, wires-are, wires-netlist}
use Rattle.backward_circuits.proofs.wiring.wires.Goals as goal

pub new-requires-3 : goal.new-requires-3
new-requires-3 c =
    let n : Netlist = c.args.circuit.now in
    let many : length c.latches.result.now ≡ length n.aig.latches = ap (λ (xs : List Latch). length xs) c.latches.ensures.value ∙ ap (λ (g : Graph). length g.latches) c.aig.ensures.value in
    let names = c.as_slice-names.ensures ∙ ap (λ (s : Symbols). s.latches) c.symbols.ensures.value in
    subst (λ (m : Netlist). IsNetlist m)
    (sym (made-of n (length c.latches.result.now) c.as_slice-names.result.now c.new.result.items c.new-2.result.items c.in_ok-outputs.outputs.items c.from_parts-aig.result c.of_outputs.result c.in_ok-symbols.symbols
    many names c.new.ensures.items c.new-2.ensures.items c.in_ok-outputs.ensures c.from_parts-aig.ensures c.of_outputs.ensures c.in_ok-symbols.ensures))
    (wires-netlist n c.known.ensures.graph c.known.ensures.netlist)

pub returns : goal.returns
returns c =
    let n : Netlist = c.args.circuit.now in
    let many : length c.latches.result.now ≡ length n.aig.latches = ap (λ (xs : List Latch). length xs) c.latches.ensures.value ∙ ap (λ (g : Graph). length g.latches) c.aig.ensures.value in
    let names = c.as_slice-names.ensures ∙ ap (λ (s : Symbols). s.latches) c.symbols.ensures.value in
    subst (λ (m : Netlist). IsWires n m)
    (sym (c.new-3.ensures ∙ made-of n (length c.latches.result.now) c.as_slice-names.result.now c.new.result.items c.new-2.result.items c.in_ok-outputs.outputs.items c.from_parts-aig.result c.of_outputs.result c.in_ok-symbols.symbols
    many names c.new.ensures.items c.new-2.ensures.items c.in_ok-outputs.ensures c.from_parts-aig.ensures c.of_outputs.ensures c.in_ok-symbols.ensures))
    (wires-are n c.known.ensures.graph c.known.ensures.netlist)
