use Rattle.std.proofs.Common.{◌≡◌, ◌∙◌, ap, sym, subst, arith, ℕ, Bool, List, [], false, replicate, Some, slice_get}
use Rattle.std.proofs.lemmas.Option.{slice_get_within}
use Rattle.frame_net.specs.FlowNet.{FlowNet, node_count}
use Rattle.cut_cert.specs.Fronts.{SearchFront, reach_node}
use Rattle.cut_cert.specs.Steps.{AreOfSource}
use Rattle.cut_cert.proofs.FrontLaws.{marked-within, no_front}
use Rattle.cut_cert.proofs.OpenWalkLaws.{sweeps-start, swept-few, sweeps-more, sweeps-end}
use Rattle.cut_cert.proofs.source_side.source_side.Goals as goal

pub loop-node-init : goal.loop-node-init
loop-node-init c =
    let net : FlowNet = c.args.net.now in
    let front : ℕ → SearchFront = λ n. record { marks = replicate n false; queue = [] } in
    let none : c.in_ok-side.side ≡ no_front (node_count net) = c.in_ok-side.ensures ∙ ap front c.nodes.ensures in
    sweeps-start net c.args.used.now c.reach.new.self (omega (arith, c.known.ensures.network.two)) (c.in_ok-reach.ensures ∙ ap (λ (r : SearchFront). reach_node r 0) none)

pub read-requires-clause-node : goal.read-requires-clause-node
read-requires-clause-node c =
    let there : slice_get c.loop-node.side.queue c.loop-node.place ≡ Some c.in-Some.node = sym c.queued.ensures ∙ c.in-Some.is in
    omega (arith, marked-within c.loop-node.side c.in-Some.node (c.loop-node.invariant.sweeps.queued c.loop-node.place c.in-Some.node there), c.loop-node.invariant.sweeps.as_long)

pub read-requires-clause-marks : goal.read-requires-clause-marks
read-requires-clause-marks c = c.loop-node.invariant.sweeps.as_long

pub loop-node-smaller : goal.loop-node-smaller
loop-node-smaller c =
    let net : FlowNet = c.args.net.now in
    let there : slice_get c.loop-node.side.queue c.loop-node.place ≡ Some c.in-Some.node = sym c.queued.ensures ∙ c.in-Some.is in
    omega (
      arith,
      slice_get_within c.loop-node.side.queue c.loop-node.place c.in-Some.node there,
      swept-few net c.args.used.now c.loop-node.side c.loop-node.place c.loop-node.invariant,
    )

pub loop-node-preserved : goal.loop-node-preserved
loop-node-preserved c =
    sweeps-more c.args.net.now c.args.used.now c.known.ensures.network c.loop-node.side c.read.new.side c.loop-node.place c.in-Some.node
    c.loop-node.invariant (sym c.queued.ensures ∙ c.in-Some.is) c.in_ok-read.ensures

pub returns : goal.returns
returns c =
    subst (λ (marks : List Bool). AreOfSource c.args.net.now c.args.used.now marks) (sym c.into_marks.ensures)
    (record { long = c.loop-node.invariant.sweeps.as_long; side = sweeps-end c.args.net.now c.args.used.now c.loop-node.side c.loop-node.place c.loop-node.invariant (sym c.queued.ensures ∙ c.in_default.is) })
