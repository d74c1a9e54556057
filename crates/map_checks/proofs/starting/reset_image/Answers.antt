use Rattle.std.proofs.Common.{◌≡◌, ◌∙◌, ap, subst}
use Rattle.aig_graph.specs.Graph.{Graph, first_gate}
use Rattle.aig_graph.specs.Gates.{Gates}
use Rattle.gate_sharing.specs.Equal.{Equal}
use Rattle.gate_sharing.specs.Copies.{IsCopy}
use Rattle.map_checks.proofs.ResetLaws.{reset-image, resets-shared}
use Rattle.map_checks.proofs.starting.reset_image.Goals as goal

pub copy-requires-clause-within : goal.copy-requires-clause-within
copy-requires-clause-within c =
    let after : c.after-shared.result.first ≡ first_gate c.args.first.now = ap (λ (k : Gates). k.first) c.after-shared.ensures ∙ c.first_gate.ensures.value in
    resets-shared c.args.first.now c.after-shared.result c.in_ok-leaves.leaves after c.in_ok-leaves.ensures

pub returns : goal.returns
returns c =
    let m : Graph = c.args.map.now.aig in
    let after : c.copy.new.shared.first ≡ first_gate c.args.first.now =
    c.in_ok-image.ensures.grows.first ∙ ap (λ (k : Gates). k.first) c.after-shared.ensures ∙ c.first_gate.ensures.value in
    reset-image c.args.first.now m c.copy.new.shared c.none-equal.result c.in_ok-leaves.leaves c.in_ok-image.image c.aig.ensures.graph c.requires.inputs c.requires.latches c.known.ensures after
    (ap (λ (e : Equal). e.substitutes) c.none-equal.ensures) c.in_ok-leaves.ensures
    (subst (λ (h : Graph). IsCopy c.copy.new.shared c.none-equal.result h c.in_ok-leaves.leaves c.in_ok-image.image) c.aig.ensures.value c.in_ok-image.ensures.copies)
