use Rattle.std.proofs.Common.{◌∙◌, ap, sym, subst}
use Rattle.aig_graph.specs.declared.properties.Symbols.{Symbols}
use Rattle.aig_graph.specs.Circuits.{IsNetlist, Netlist, no_symbols}
use Rattle.aig_graph.specs.Graph.{Graph}
use Rattle.map_miters.proofs.circuits.circuit_of.Goals as goal

pub new-requires : goal.new-requires
new-requires c =
    subst (λ (s : Symbols). IsNetlist (record { aig = c.finish.result; props = c.args.props; symbols = s })) (sym c.none.ensures)
    (subst (λ (g : Graph). IsNetlist (record { aig = g; props = c.args.props; symbols = no_symbols })) (sym c.finish.ensures) c.requires)

pub returns : goal.returns
returns c =
    let F : Graph → Symbols → Netlist = λ g s. record { aig = g; props = c.args.props; symbols = s } in
    c.new.ensures ∙ ap (λ (g : Graph). F g c.none.result) c.finish.ensures ∙ ap (λ (s : Symbols). F c.args.gates s) c.none.ensures
