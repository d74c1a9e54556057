use Rattle.std.proofs.Common.{◌∙◌, ap, sym, subst}
use Rattle.aig_graph.specs.Circuits.{IsNetlist, Netlist}
use Rattle.aig_graph.specs.Graph.{Graph}
use Rattle.witness_circuits.proofs.lifting.finished.Goals as goal

pub new-requires : goal.new-requires
new-requires c = subst (λ (g : Graph). IsNetlist (record { aig = g; props = c.args.built.props; symbols = c.args.symbols })) (sym c.finish.ensures) c.requires

pub returns : goal.returns
returns c =
    let F : Graph → Netlist = λ g. record { aig = g; props = c.args.built.props; symbols = c.args.symbols } in
    c.new.ensures ∙ ap F c.finish.ensures
