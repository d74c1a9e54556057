use Rattle.std.proofs.Common.{sym, subst}
use Rattle.aig_graph.specs.Circuits.{Netlist}
use Rattle.map_miters.specs.Products.{IsProduct}
use Rattle.map_miters.proofs.EndLaws.{built-netlist, is-product}
use Rattle.map_miters.proofs.products.product_machine.Goals as goal

pub finished-requires : goal.finished-requires
finished-requires c = built-netlist c.args.goal c.args.first.now c.args.second.now c.args.map.now c.in-Ok.built c.in-Ok.ensures

pub returns-in-Ok : goal.returns-in-Ok
returns-in-Ok c =
    subst (λ (r : Netlist). IsProduct c.args.goal c.args.first.now c.args.second.now c.args.map.now r) (sym c.finished.ensures)
    (is-product c.args.goal c.args.first.now c.args.second.now c.args.map.now c.in-Ok.built c.in-Ok.ensures)
