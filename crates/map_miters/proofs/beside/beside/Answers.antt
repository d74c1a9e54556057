use Rattle.std.proofs.Common.{◌≡◌, ◌∙◌, ap, length, sym, subst}
use Rattle.std.proofs.lemmas.Result.{IfOk-weaker}
use Rattle.aig_graph.specs.Circuits.{Netlist}
use Rattle.aig_graph.specs.Graph.{Graph}
use Rattle.witness_circuits.specs.declared.sharing.Sharing.{Sharing}
use Rattle.witness_circuits.specs.Lifting.{IsLiftedOver}
use Rattle.witness_circuits.specs.Parts.{IsLiftable}
use Rattle.map_miters.specs.Beside.{beside_sharing, no_map}
use Rattle.map_miters.proofs.BesideLaws.{is-beside, liftable}
use Rattle.map_miters.proofs.beside.beside.Goals as goal

pub witness_lifted_over-both-requires-clause-fits : goal.witness_lifted_over-both-requires-clause-fits
witness_lifted_over-both-requires-clause-fits c =
    let a : Netlist = c.args.first.now in
    let d : Netlist = c.args.second.now in
    let sharing : c.in_ok-sharing.sharing ≡ beside_sharing a.aig d.aig =
    c.in_ok-sharing.ensures ∙ ap (λ (g : Graph). beside_sharing g c.aig.result.now) c.aig-model.ensures.value ∙ ap (λ (g : Graph). beside_sharing a.aig g) c.aig.ensures.value in
    let map : c.in-Ok.map ≡ no_map (length a.aig.latches) = c.in-Ok.ensures ∙ ap (λ (g : Graph). no_map (length g.latches)) c.aig-model.ensures.value in
    subst (λ (k : Sharing). IsLiftable a c.in-Ok.map d k) (sym sharing) (subst (λ (m : Netlist). IsLiftable a m d (beside_sharing a.aig d.aig)) (sym map) (liftable a d c.requires))

pub returns-in-Ok : goal.returns-in-Ok
returns-in-Ok c =
    let a : Netlist = c.args.first.now in
    let d : Netlist = c.args.second.now in
    let sharing : c.in_ok-sharing.sharing ≡ beside_sharing a.aig d.aig =
    c.in_ok-sharing.ensures ∙ ap (λ (g : Graph). beside_sharing g c.aig.result.now) c.aig-model.ensures.value ∙ ap (λ (g : Graph). beside_sharing a.aig g) c.aig.ensures.value in
    let map : c.in-Ok.map ≡ no_map (length a.aig.latches) = c.in-Ok.ensures ∙ ap (λ (g : Graph). no_map (length g.latches)) c.aig-model.ensures.value in
    IfOk-weaker c.witness_lifted_over-both.result _ _ (λ b lifted. is-beside a d c.requires c.known.ensures.graph b
    (subst (λ (m : Netlist). IsLiftedOver a m d (beside_sharing a.aig d.aig) b) map (subst (λ (k : Sharing). IsLiftedOver a c.in-Ok.map d k b) sharing lifted))) c.witness_lifted_over-both.ensures.lifted
