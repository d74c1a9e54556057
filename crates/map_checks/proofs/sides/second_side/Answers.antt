use Rattle.std.proofs.Common.{◌≡◌, ◌∙◌, ◌<◌, ap, sym, subst, arith, ℕ, List}
use Rattle.std.specs.List.{All}
use Rattle.aig_graph.specs.declared.properties.Props.{Props}
use Rattle.aig_graph.specs.Graph.{Graph, first_latch, variable}
use Rattle.gate_sharing.specs.Copies.{AreShared, Copy, IsCopy}
use Rattle.map_checks.specs.Images.{copy_of_literals}
use Rattle.map_checks.proofs.ImageLaws.{picked-shared, view-second}
use Rattle.map_checks.proofs.sides.second_side.Goals as goal

pub copy-requires-clause-within : goal.copy-requires-clause-within
copy-requires-clause-within c =
    let d : Graph = c.args.second.now.aig in
    let lits : List ℕ = c.args.map.now.props.outputs in
    let is : c.as_slice-outputs.result.now ≡ lits = c.as_slice-outputs.ensures ∙ ap (λ (p : Props). p.outputs) c.props.ensures.value in
    let at : c.first_latch.result ≡ first_latch d = c.first_latch.ensures.value ∙ ap first_latch c.aig.ensures.value in
    let leaves : c.in_ok-leaves.leaves ≡ copy_of_literals (first_latch d) c.args.image.now lits =
    c.in_ok-leaves.ensures ∙ ap (λ (n : ℕ). copy_of_literals n c.args.image.now c.as_slice-outputs.result.now) at ∙ ap (copy_of_literals (first_latch d) c.args.image.now) is in
    subst (λ (p : Copy). AreShared c.args.shared.now p) (sym leaves)
    (picked-shared c.args.shared.now (first_latch d) c.args.image.now lits (omega (arith, c.requires.after, c.requires.inputs)) c.requires.within
    (subst (λ (n : ℕ). All (λ lit. variable lit < n) lits) (sym c.requires.long) c.known.ensures.netlist.props.outputs))

pub returns-clause-view : goal.returns-clause-view
returns-clause-view c = λ e stays view.
    let d : Graph = c.args.second.now.aig in
    let lits : List ℕ = c.args.map.now.props.outputs in
    let is : c.as_slice-outputs.result.now ≡ lits = c.as_slice-outputs.ensures ∙ ap (λ (p : Props). p.outputs) c.props.ensures.value in
    let at : c.first_latch.result ≡ first_latch d = c.first_latch.ensures.value ∙ ap first_latch c.aig.ensures.value in
    let leaves : c.in_ok-leaves.leaves ≡ copy_of_literals (first_latch d) c.args.image.now lits =
    c.in_ok-leaves.ensures ∙ ap (λ (n : ℕ). copy_of_literals n c.args.image.now c.as_slice-outputs.result.now) at ∙ ap (copy_of_literals (first_latch d) c.args.image.now) is in
    let copied : Copy = c.in_ok-copied.copied in
    let there : IsCopy c.copy.new.shared c.args.equal.now d (copy_of_literals (first_latch d) c.args.image.now lits) copied =
    subst (λ (p : Copy). IsCopy c.copy.new.shared c.args.equal.now d p copied) leaves
    (subst (λ (h : Graph). IsCopy c.copy.new.shared c.args.equal.now h c.in_ok-leaves.leaves copied) c.aig-2.ensures.value c.in_ok-copied.ensures.copies) in
    view-second c.args.shared.now c.copy.new.shared e c.args.equal.now c.args.first.now c.args.second.now c.args.map.now c.args.image.now copied c.aig.ensures.graph c.known.ensures.netlist
    c.requires.inputs c.requires.widths c.in_ok-copied.ensures.grows view stays there
