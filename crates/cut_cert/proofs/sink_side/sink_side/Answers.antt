use Rattle.std.proofs.Common.{◌≡◌, ◌<◌, ◌-◌, ◌∙◌, inl, ap, sym, arith, ℕ, [], replicate, Some, slice_get, false}
use Rattle.std.proofs.lemmas.Option.{slice_get_within}
use Rattle.frame_net.specs.FlowNet.{FlowNet, node_count}
use Rattle.pulse.specs.Conditions.{state_of}
use Rattle.cut_cert.specs.Fronts.{SearchFront, reach_node}
use Rattle.cut_cert.proofs.FrontLaws.{marked-within, no_front}
use Rattle.cut_cert.proofs.SinkWalkLaws.{sweeping-start, sink-first, sweeping-more, sweeping-down, sweeping-skip, sweeping-to, sweeping-end, sweeping-few}
use Rattle.cut_cert.proofs.sink_side.sink_side.Goals as goal

pub read-requires-clause-long : goal.read-requires-clause-long
read-requires-clause-long c =
    let net : FlowNet = c.args.net.now in
    let front : ℕ → SearchFront = λ n. record { marks = replicate n false; queue = [] } in
    let none : c.in_ok-side.side ≡ no_front (node_count net) = c.in_ok-side.ensures ∙ ap front c.nodes-nodes.ensures in
    let two : 1 < node_count net = omega (arith, c.known.ensures.network.two) in
    (sweeping-start (node_count net) (state_of net c.args.preflow.now.flow) 2 c.reach.new.self two (c.in_ok-reach.ensures ∙ ap (λ (r : SearchFront). reach_node r 1) none)).sweeps.as_long

pub loop-v-init : goal.loop-v-init
loop-v-init c =
    let net : FlowNet = c.args.net.now in
    let front : ℕ → SearchFront = λ n. record { marks = replicate n false; queue = [] } in
    let none : c.in_ok-side.side ≡ no_front (node_count net) = c.in_ok-side.ensures ∙ ap front c.nodes-nodes.ensures in
    let two : 1 < node_count net = omega (arith, c.known.ensures.network.two) in
    let sink : c.reach.new.self ≡ reach_node (no_front (node_count net)) 1 = c.in_ok-reach.ensures ∙ ap (λ (r : SearchFront). reach_node r 1) none in
    sweeping-more net c.known.ensures.network c.args.preflow.now.flow.cells.residuals c.args.preflow.now.flow.cells.excess c.args.preflow.now.flow.labels
    c.nodes-nodes.result c.reach.new.self c.read.new.side 0 1
    (sweeping-start (node_count net) (state_of net c.args.preflow.now.flow) c.nodes-nodes.result c.reach.new.self two sink)
    (sink-first (node_count net) c.reach.new.self two sink) c.in_ok-read.ensures

pub has-requires : goal.has-requires
has-requires c = omega (arith, c.loop-v-test.true, c.loop-v.auto.v, c.loop-v.invariant.sweeps.as_long, c.nodes-nodes.ensures, c.known.ensures.network.two)

pub read-requires-then-has-clause-long : goal.read-requires-then-has-clause-long
read-requires-then-has-clause-long c = c.loop-v.invariant.sweeps.as_long

pub read-requires-then-has-clause-node : goal.read-requires-then-has-clause-node
read-requires-then-has-clause-node c = omega (arith, c.loop-v-test.true, c.loop-v.auto.v, c.nodes-nodes.ensures, c.known.ensures.network.two)

pub loop-v-preserved-in-Continue-branch-4 : goal.loop-v-preserved-in-Continue-branch-4
loop-v-preserved-in-Continue-branch-4 c =
    let net : FlowNet = c.args.net.now in
    sweeping-down net c.known.ensures.network c.args.preflow.now.flow.cells.residuals c.args.preflow.now.flow.cells.excess c.args.preflow.now.flow.labels
    c.loop-v.v c.loop-v.side c.read-then-has.new.side 1 (c.loop-v.v - 1) (omega arith) (omega arith) c.loop-v.invariant (sym c.has.ensures ∙ c.if-has.true) c.in_ok-read-2.ensures

pub loop-v-preserved : goal.loop-v-preserved
loop-v-preserved c =
    let net : FlowNet = c.args.net.now in
    sweeping-skip (node_count net) (state_of net c.args.preflow.now.flow) c.loop-v.v c.loop-v.side 1 (c.loop-v.v - 1) (omega arith) (sym c.has.ensures ∙ c.if-has.false) c.loop-v.invariant

pub loop-w-init : goal.loop-w-init
loop-w-init c =
    let net : FlowNet = c.args.net.now in
    sweeping-to (node_count net) (state_of net c.args.preflow.now.flow) c.loop-v.v 2 c.loop-v.side 1
    (λ w e inner less. inl (inner, omega (arith, less, c.loop-v-test.false))) c.loop-v.invariant

pub read-requires-in-Some-clause-long : goal.read-requires-in-Some-clause-long
read-requires-in-Some-clause-long c = c.loop-w.invariant.sweeps.as_long

pub read-requires-in-Some-clause-node : goal.read-requires-in-Some-clause-node
read-requires-in-Some-clause-node c =
    let there : slice_get c.loop-w.side.queue c.loop-w.place ≡ Some c.in-Some.w = sym c.queued.ensures ∙ c.in-Some.is in
    omega (arith, marked-within c.loop-w.side c.in-Some.w (c.loop-w.invariant.sweeps.queued c.loop-w.place c.in-Some.w there), c.loop-w.invariant.sweeps.as_long)

pub loop-w-smaller : goal.loop-w-smaller
loop-w-smaller c =
    let net : FlowNet = c.args.net.now in
    let there : slice_get c.loop-w.side.queue c.loop-w.place ≡ Some c.in-Some.w = sym c.queued.ensures ∙ c.in-Some.is in
    omega (
      arith,
      slice_get_within c.loop-w.side.queue c.loop-w.place c.in-Some.w there,
      sweeping-few (node_count net) (state_of net c.args.preflow.now.flow) 2 c.loop-w.side c.loop-w.place c.loop-w.invariant,
    )

pub loop-w-preserved : goal.loop-w-preserved
loop-w-preserved c =
    let net : FlowNet = c.args.net.now in
    sweeping-more net c.known.ensures.network c.args.preflow.now.flow.cells.residuals c.args.preflow.now.flow.cells.excess c.args.preflow.now.flow.labels
    2 c.loop-w.side c.read-in-Some.new.side c.loop-w.place c.in-Some.w c.loop-w.invariant (sym c.queued.ensures ∙ c.in-Some.is) c.in_ok-read-3.ensures

pub returns-clause-long : goal.returns-clause-long
returns-clause-long c = c.loop-w.invariant.sweeps.as_long

pub returns-clause-side : goal.returns-clause-side
returns-clause-side c =
    let net : FlowNet = c.args.net.now in
    sweeping-end (node_count net) (state_of net c.args.preflow.now.flow) c.loop-w.side c.loop-w.place c.loop-w.invariant (sym c.queued.ensures ∙ c.in_default.is)
