use Rattle.std.proofs.Common.{◌≡◌, ◌∙◌, ℕ, List, length, slice_index, ap, arith}
use Rattle.std.proofs.lemmas.Bool.{false≢true}
use Rattle.frame_net.specs.FlowNet.{node_count}
use Rattle.pulse_parts.proofs.NumberLaws.{flow_numbered}
use Rattle.pulse.proofs.flow.Flow.start_for.Goals as goal
use Rattle.pulse.proofs.RangeLaws.{flow_ranges_of}
use Rattle.pulse.proofs.TurnLaws.{started_flow}

pub returns-clause-start : goal.returns-clause-start
returns-clause-start c =
    let same : c.in_ok-caps.caps ≡ c.args.net.now.caps = c.in_ok-caps.ensures ∙ c.capacities.ensures in
    started_flow c.args.net.now c.in_ok-parts.parts.items c.in_ok-labels.labels.items c.in_ok-delivered.delivered.items c.in_ok-caps.caps c.known.ensures.network c.known_capacities.ensures.startable c.in_ok-parts.ensures.starts
    c.in_ok-labels.ensures.len c.in_ok-labels.ensures.each (omega (arith, c.in_ok-delivered.ensures.len, c.nodes-nodes.ensures))
    (λ v h. c.in_ok-delivered.ensures.none v (omega (arith, h, c.in_ok-delivered.ensures.len, c.nodes-nodes.ensures))) (ap length same ∙ c.known.ensures.network.same_caps)
    (λ arc h. ap (λ (xs : List ℕ). slice_index xs arc) same)

pub returns-clause-shares : goal.returns-clause-shares
returns-clause-shares c = flow_ranges_of (node_count c.args.net.now) c.args.workers 0 c.in_ok-parts.parts.items c.in_ok-parts.ensures.shares (omega (arith, c.in_ok-parts.ensures.len))

pub invariant_of-result : goal.invariant_of-result
invariant_of-result c = record {
  lists = λ on. absurd (false≢true on);
  numbered = λ free. flow_numbered (node_count c.args.net.now) c.args.workers c.in_ok-parts.parts.items c.in_ok-parts.ensures.shares;
}
