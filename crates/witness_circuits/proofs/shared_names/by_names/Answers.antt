use Rattle.std.proofs.Common.{List, ◌∙◌, ap, arith, length}
use Rattle.aig_graph.specs.declared.graph.Latch.{Latch}
use Rattle.aig_graph.specs.declared.properties.Symbols.{Symbols}
use Rattle.aig_graph.specs.Graph.{Graph}
use Rattle.witness_circuits.proofs.NamingLaws.{names-below}
use Rattle.witness_circuits.proofs.shared_names.by_names.Goals as goal

pub named_places-requires-clause-rising : goal.named_places-requires-clause-rising
named_places-requires-clause-rising c =
    (names-below _ _ _ _ (c.inputs.ensures.value ∙ ap (λ (g : Graph). g.inputs) c.aig-of_witness.ensures.value) (c.as_slice.ensures ∙ ap (λ (s : Symbols). s.inputs) c.symbols-names.ensures.value) c.known-2.ensures.netlist.symbols.inputs).rising

pub named_places-requires-clause-below : goal.named_places-requires-clause-below
named_places-requires-clause-below c =
    (names-below _ _ _ _ (c.inputs.ensures.value ∙ ap (λ (g : Graph). g.inputs) c.aig-of_witness.ensures.value) (c.as_slice.ensures ∙ ap (λ (s : Symbols). s.inputs) c.symbols-names.ensures.value) c.known-2.ensures.netlist.symbols.inputs).below

pub named_places-requires-clause-few : goal.named_places-requires-clause-few
named_places-requires-clause-few c = omega (arith, c.inputs-2.ensures.value, ap (λ (g : Graph). g.inputs) c.aig-of_model.ensures.value, c.known.ensures.graph.small)

pub named_places-requires-2-clause-rising : goal.named_places-requires-2-clause-rising
named_places-requires-2-clause-rising c =
    (names-below _ _ _ _ (ap (λ (ls : List Latch). length ls) c.latches.ensures.value ∙ ap (λ (g : Graph). length g.latches) c.aig-of_witness.ensures.value) (c.as_slice-2.ensures ∙ ap (λ (s : Symbols). s.latches) c.symbols-names.ensures.value) c.known-2.ensures.netlist.symbols.latches).rising

pub named_places-requires-2-clause-below : goal.named_places-requires-2-clause-below
named_places-requires-2-clause-below c =
    (names-below _ _ _ _ (ap (λ (ls : List Latch). length ls) c.latches.ensures.value ∙ ap (λ (g : Graph). length g.latches) c.aig-of_witness.ensures.value) (c.as_slice-2.ensures ∙ ap (λ (s : Symbols). s.latches) c.symbols-names.ensures.value) c.known-2.ensures.netlist.symbols.latches).below

pub named_places-requires-2-clause-few : goal.named_places-requires-2-clause-few
named_places-requires-2-clause-few c =
    omega (arith, ap (λ (ls : List Latch). length ls) c.latches-2.ensures.value, ap (λ (g : Graph). length g.latches) c.aig-of_model.ensures.value, c.known.ensures.graph.small)
