use Rattle.std.proofs.Common.{◌<◌, slice_index, slice_set, arith, ◌∙◌, [], refl}
use Rattle.std.proofs.lemmas.List.{get_or-set_same, get_or-set_other}
use Rattle.frame_net.specs.FlowNet.{node_count}
use Rattle.pulse_parts.specs.Parts.{cells_of, pairs}
use Rattle.pulse_parts.proofs.DistanceWalkLaws.{sweeps_start, sweeps_few, sweeps_end}
use Rattle.pulse_parts.proofs.DistanceLaws.{distance_same}
use Rattle.pulse_parts.proofs.walk.exact_labels.Goals as goal

pub nodes-init : goal.nodes-init
nodes-init c =
    let two : 1 < node_count c.args.net.now = omega (arith, c.known.ensures.network.two) in
    sweeps_start (node_count c.args.net.now) (pairs c.args.net.now (cells_of c.args.parts.now) []) (slice_index (slice_set c.unlabel.new.labels 1 0)) (slice_index (slice_set c.args.queue.now 0 1)) two
    (get_or-set_same c.unlabel.new.labels 1 0 0 (omega (arith, two, c.requires.labels)))
    (λ v h other. get_or-set_other c.unlabel.new.labels 1 v 0 0 other ∙ c.unlabel.ensures v (omega (arith, h, c.requires.labels)) ∙ c.nodes-nodes.ensures)
    (get_or-set_same c.args.queue.now 0 1 0 (omega (arith, two, c.requires.queue)))

pub read_node-queued-requires-clause-few : goal.read_node-queued-requires-clause-few
read_node-queued-requires-clause-few c =
    sweeps_few (node_count c.args.net.now) (pairs c.args.net.now (cells_of c.args.parts.now) []) (slice_index c.nodes.labels) (slice_index c.nodes.queue) c.nodes.queued c.nodes.place c.nodes.invariant

pub nodes-smaller : goal.nodes-smaller
nodes-smaller c =
    omega (
      arith,
      c.nodes-test.true,
      sweeps_few (node_count c.args.net.now) (pairs c.args.net.now (cells_of c.args.parts.now) []) (slice_index c.nodes.labels) (slice_index c.nodes.queue) c.nodes.queued c.nodes.place c.nodes.invariant,
    )

pub returns : goal.returns
returns c =
    distance_same (node_count c.args.net.now) (pairs c.args.net.now (cells_of c.args.parts.now) []) (pairs c.args.net.now (cells_of c.args.parts.now) c.args.labels.now) (λ v w h l. refl) (slice_index c.nodes.labels)
    (sweeps_end (node_count c.args.net.now) (pairs c.args.net.now (cells_of c.args.parts.now) []) (slice_index c.nodes.labels) (slice_index c.nodes.queue) c.nodes.queued c.nodes.place c.nodes.invariant (omega (arith, c.nodes-test.false)))
