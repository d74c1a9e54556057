use Rattle.std.proofs.Common.{◌≡◌, ◌∙◌, ap, sym, subst}
use Rattle.aig_graph.specs.declared.properties.Symbols.{Symbols}
use Rattle.aig_graph.specs.Circuits.{IsNetlist, Netlist}
use Rattle.aig_graph.specs.Graph.{Graph}
use Rattle.witness_circuits.specs.declared.building.Built.{Built}
use Rattle.witness_circuits.specs.Built.{circuit_of}
use Rattle.witness_circuits.specs.Lifting.{IsLiftedOver, IsNamedAs}
use Rattle.witness_circuits.proofs.FinishLaws.{is-lifted, is-named, lifted-netlist, named}
use Rattle.witness_circuits.proofs.lifting.witness_lifted_over.Goals as goal

pub finished-requires : goal.finished-requires
finished-requires c =
    let a : Netlist = c.args.first.now in
    let g : Graph = c.args.model.now in
    let b : Built = c.in-Ok.built in
    subst (λ (s : Symbols). IsNetlist (circuit_of b s)) (sym c.in_ok-symbols.ensures) (lifted-netlist b.gates a c.args.map.now c.args.witness.now c.args.sharing.now b.props c.in-Ok.ensures g c.requires.room)

pub returns-in-Ok-clause-lifted : goal.returns-in-Ok-clause-lifted
returns-in-Ok-clause-lifted c =
    let a : Netlist = c.args.first.now in
    let g : Graph = c.args.model.now in
    let b : Built = c.in-Ok.built in
    let made : c.finished.result ≡ circuit_of b (named g) = c.finished.ensures ∙ ap (circuit_of b) c.in_ok-symbols.ensures in
    subst (λ (r : Netlist). IsLiftedOver a c.args.map.now c.args.witness.now c.args.sharing.now r) (sym made) (is-lifted b.gates a c.args.map.now c.args.witness.now c.args.sharing.now b.props c.in-Ok.ensures g)

pub returns-in-Ok-clause-named : goal.returns-in-Ok-clause-named
returns-in-Ok-clause-named c =
    let g : Graph = c.args.model.now in
    let b : Built = c.in-Ok.built in
    let made : c.finished.result ≡ circuit_of b (named g) = c.finished.ensures ∙ ap (circuit_of b) c.in_ok-symbols.ensures in
    subst (λ (r : Netlist). IsNamedAs g r) (sym made) (is-named g b.gates b.props)
