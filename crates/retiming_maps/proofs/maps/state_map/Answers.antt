use Rattle.std.proofs.Common.{◌∙◌, ap, subst, sym}
use Rattle.aig_graph.specs.declared.properties.Symbols.{Symbols}
use Rattle.aig_graph.specs.Circuits.{Netlist}
use Rattle.state_maps.specs.MapCircuits.{FreeStay, IsMapCircuit}
use Rattle.retiming_maps.specs.Mapping.{map_of}
use Rattle.retiming_maps.specs.Plain.{IsPlainMap}
use Rattle.retiming_maps.proofs.FinishingLaws.{map-circuit, map-free, map-plain}
use Rattle.retiming_maps.proofs.maps.state_map.Goals as goal

pub finished-requires : goal.finished-requires
finished-requires c =
    let d = c.args.retimed.now in
    let parts = c.args.parts in
    subst (λ (symbols : Symbols). IsPlainMap (map_of parts symbols)) (sym c.in-Ok.ensures)
    (map-plain c.args.circuit.now d c.requires.0 parts c.known.ensures.netlist c.known-2.ensures.netlist c.requires.1)

pub returns-in-Ok-clause-map : goal.returns-in-Ok-clause-map
returns-in-Ok-clause-map c = λ kept map.
    let d = c.args.retimed.now in
    let parts = c.args.parts in
    subst (λ (m : Netlist). IsMapCircuit c.args.circuit.now d kept m) (sym (c.finished.ensures ∙ ap (map_of parts) c.in-Ok.ensures))
    (map-circuit c.args.circuit.now d kept parts c.known.ensures.netlist c.known-2.ensures.netlist map)

pub returns-in-Ok-clause-free : goal.returns-in-Ok-clause-free
returns-in-Ok-clause-free c =
    let d = c.args.retimed.now in
    let parts = c.args.parts in
    subst (λ (m : Netlist). FreeStay c.args.circuit.now d m) (sym (c.finished.ensures ∙ ap (map_of parts) c.in-Ok.ensures))
    (map-free c.args.circuit.now d c.requires.0 parts c.known.ensures.netlist c.known-2.ensures.netlist c.requires.1)

pub returns-in-Ok-clause-names : goal.returns-in-Ok-clause-names
returns-in-Ok-clause-names c = ap (λ (m : Netlist). m.symbols) c.finished.ensures ∙ c.in-Ok.ensures
