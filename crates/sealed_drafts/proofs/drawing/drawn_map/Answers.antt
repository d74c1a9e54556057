use Rattle.std.proofs.Common.{ℕ, ◌≡◌, ◌∙◌, List, length, arith, ap, sym, subst}
use Rattle.aig_graph.specs.declared.graph.Latch.{Latch}
use Rattle.aig_graph.specs.declared.properties.Props.{Props}
use Rattle.aig_graph.specs.declared.properties.Symbol.{Symbol}
use Rattle.aig_graph.specs.declared.properties.Symbols.{Symbols}
use Rattle.aig_graph.specs.Circuits.{IsNetlist, Netlist, outputs_alone}
use Rattle.aig_graph.specs.Graph.{Graph, variables_end}
use Rattle.backward_circuits.specs.Drawn.{map_names}
use Rattle.sealed_drafts.specs.Sealed.{AreStanding, IsSealed}
use Rattle.sealed_drafts.proofs.MapLaws.{map-netlist}
use Rattle.sealed_drafts.proofs.drawing.drawn_map.Goals as goal

pub new-requires : goal.new-requires
new-requires c =
    let from : Netlist = c.args.from.now in
    let to : Netlist = c.args.to.now in
    let g : Graph = c.in_ok-aig.aig in
    let literals : List ℕ = c.in_ok-literals.literals.items in
    let facts : List ℕ = c.in_ok-facts.facts.items in
    let inside : List Symbol = from.symbols.latches in
    let outside : List Symbol = to.symbols.latches in
    let gates : ℕ = length c.args.gates.now in
    let inputs : length c.latches-2.result.now ≡ length from.aig.latches = ap (λ (xs : List Latch). length xs) c.latches-2.ensures.value ∙ ap (λ (h : Graph). length h.latches) c.aig-2.ensures.value in
    let many : length c.latches.result.now ≡ length to.aig.latches = ap (λ (xs : List Latch). length xs) c.latches.ensures.value ∙ ap (λ (h : Graph). length h.latches) c.aig.ensures.value in
    let each : length c.args.outputs.now ≡ length to.aig.latches = omega (arith, c.if-outputs-latches.false, many) in
    let one : c.as_slice.result.now ≡ inside = c.as_slice.ensures ∙ ap (λ (s : Symbols). s.latches) c.symbols.ensures.value in
    let two : c.as_slice-2.result.now ≡ outside = c.as_slice-2.ensures ∙ ap (λ (s : Symbols). s.latches) c.symbols-2.ensures.value in
    let symbols : c.in_ok-symbols.symbols ≡ map_names inside outside =
    c.in_ok-symbols.ensures ∙ ap (λ (xs : List Symbol). map_names xs c.as_slice-2.result.now) one ∙ ap (λ (xs : List Symbol). map_names inside xs) two in
    let sealed = subst (λ (n : ℕ). IsSealed n 0 gates g) inputs c.in_ok-aig.ensures in
    let standing = subst (λ (n : ℕ). AreStanding n (variables_end g) literals) each (subst (λ (n : ℕ). AreStanding (length c.args.outputs.now) n literals) c.variables.ensures.value c.in_ok-literals.ensures) in
    let bounded = subst (λ (n : ℕ). AreStanding (length c.args.constraints.now) n facts) c.variables-2.ensures.value c.in_ok-facts.ensures in
    subst (λ (p : Props). IsNetlist (record { aig = g; props = p; symbols = c.in_ok-symbols.symbols })) (sym c.map_props-props.ensures)
    (subst (λ (s : Symbols). IsNetlist (record { aig = g; props = record (outputs_alone literals) { constraints = facts }; symbols = s })) (sym symbols)
    (map-netlist g (length from.aig.latches) (length to.aig.latches) (length c.args.constraints.now) gates literals facts inside outside sealed standing bounded c.known.ensures.netlist.symbols.latches c.known-2.ensures.netlist.symbols.latches))
