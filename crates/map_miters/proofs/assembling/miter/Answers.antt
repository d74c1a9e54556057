use Rattle.std.proofs.Common.{◌∙◌, ap, sym, subst}
use Rattle.aig_graph.specs.declared.properties.Symbols.{Symbols}
use Rattle.aig_graph.specs.Circuits.{IsNetlist, Netlist}
use Rattle.map_miters.specs.declared.assembling.Asked.{Asked}
use Rattle.map_miters.specs.Miters.{IsMiter, miter_with}
use Rattle.map_miters.proofs.MiterLaws.{is-miter, miter-netlist}
use Rattle.map_miters.proofs.assembling.miter.Goals as goal

pub finished-requires : goal.finished-requires
finished-requires c =
    let a : Asked = c.in-Ok.asked in
    subst (λ (s : Symbols). IsNetlist (miter_with a.gates a.outputs.items s)) (sym c.in_ok-symbols.ensures) (miter-netlist a.gates c.args.first.now c.args.second.now c.args.map.now a.outputs.items c.in-Ok.ensures)

pub returns-in-Ok : goal.returns-in-Ok
returns-in-Ok c =
    let a : Asked = c.in-Ok.asked in
    subst (λ (r : Netlist). IsMiter c.args.first.now c.args.second.now c.args.map.now r) (sym (c.finished.ensures ∙ ap (λ (s : Symbols). miter_with a.gates a.outputs.items s) c.in_ok-symbols.ensures))
    (is-miter a.gates c.args.first.now c.args.second.now c.args.map.now a.outputs.items c.in-Ok.ensures)
