use Rattle.std.proofs.Common.{◌≡◌, ◌∙◌, List, ℕ, ap, subst, length, get_or}
use Rattle.std.specs.List.{All}
use Rattle.aig_graph.specs.declared.properties.Props.{Props}
use Rattle.aig_graph.specs.Graph.{Graph}
use Rattle.map_checks.specs.declared.openings.Start.{Start}
use Rattle.gate_sharing.specs.Copies.{copy_of}
use Rattle.map_checks.specs.Openings.{IsLookAtStart}
use Rattle.map_checks.specs.Starts.{AreStarts, IsResetImage}
use Rattle.map_checks.proofs.StartLaws.{begins}
use Rattle.map_checks.proofs.checking.opening_of.Goals as goal

pub returns-in-Kept : goal.returns-in-Kept
returns-in-Kept c =
    let first : Graph = c.args.first.now.aig in
    let second : Graph = c.args.second.now.aig in
    let m : Graph = c.args.map.now.aig in
    let props : Props = c.args.map.now.props in
    let is : IsResetImage first m c.in_ok-image.image = subst (λ (g : Graph). IsResetImage g m c.in_ok-image.image) c.aig.ensures.value c.in_ok-image.ensures in
    let ones_of : c.as_slice.result.now ≡ props.constraints = c.as_slice.ensures ∙ ap (λ (p : Props). p.constraints) c.props.ensures.value in
    let outputs_of : c.as_slice-outputs.result.now ≡ props.outputs = c.as_slice-outputs.ensures ∙ ap (λ (p : Props). p.outputs) c.props-2.ensures.value in
    let found : AreStarts c.aig-2.result.now c.aig-3.result.now (λ j. copy_of c.in_ok-image.image (get_or c.as_slice-outputs.result.now j 0)) (length c.aig-3.result.now.latches) c.in-Kept.kept =
    subst (λ (o : Start). IsLookAtStart c.aig-2.result.now c.aig-3.result.now (λ j. copy_of c.in_ok-image.image (get_or c.as_slice-outputs.result.now j 0)) o) c.in-Kept.is c.in_ok-kept.ensures in
    let starts : AreStarts first second (λ j. copy_of c.in_ok-image.image (get_or props.outputs j 0)) (length second.latches) c.in-Kept.kept =
    subst (λ (lits : List ℕ). AreStarts first second (λ j. copy_of c.in_ok-image.image (get_or lits j 0)) (length second.latches) c.in-Kept.kept) outputs_of
    (subst (λ (g : Graph). AreStarts g second (λ j. copy_of c.in_ok-image.image (get_or c.as_slice-outputs.result.now j 0)) (length second.latches) c.in-Kept.kept) c.aig-2.ensures.value
    (subst (λ (g : Graph). AreStarts c.aig-2.result.now g (λ j. copy_of c.in_ok-image.image (get_or c.as_slice-outputs.result.now j 0)) (length g.latches) c.in-Kept.kept) c.aig-3.ensures.value found)) in
    begins c.args.first.now c.args.second.now c.args.map.now c.in_ok-image.image c.in-Kept.kept is c.known.ensures.netlist c.requires.fitting.outputs
    (subst (λ (lits : List ℕ). All (λ lit. copy_of c.in_ok-image.image lit ≡ 1) lits) ones_of c.in_default.ensures) c.known-in-Kept.ensures starts
