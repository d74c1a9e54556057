use Rattle.std.proofs.Common.{◌≡◌, ℕ, arith, ap, ◌∙◌, subst, slice_index}
use Rattle.frame_net.specs.FlowNet.{node_count}
use Rattle.pulse_parts.specs.Parts.{cells_of}
use Rattle.pulse_parts.specs.Start.{AreFlowShares, border_of, PartHolds, PartsHold}
use Rattle.pulse_parts.proofs.parting.parted_anew.Goals as goal
use Rattle.pulse_parts.proofs.CarryLaws.{lists_more}
use Rattle.pulse_parts.proofs.BorderLaws.{border_last, cut_pushed, shares_pushed}

pub loop-worker-preserved : goal.loop-worker-preserved
loop-worker-preserved c = record {
  reached = c.border-end.ensures.value;
  len = omega (arith, c.loop-worker.invariant.len, c.in_ok-push.ensures.len);
  shares = shares_pushed (λ q. q.worker) (λ q. q.first) (λ q. q.end) c.nodes-nodes.result c.args.workers c.loop-worker.worker c.loop-worker.parts.items c.push.new.self.items c.in_ok-part.part
      c.in_ok-push.ensures.items c.loop-worker.invariant.shares c.loop-worker.invariant.len
      (record { number = c.in_ok-part.ensures.worker; from = c.in_ok-part.ensures.first ∙ c.loop-worker.invariant.reached; to = c.in_ok-part.ensures.end ∙ c.border-end.ensures.value });
  lists = λ was. lists_more (node_count c.args.net.now) c.args.labels.now c.loop-worker.parts.items c.push.new.self.items c.in_ok-part.part c.in_ok-push.ensures.items (c.loop-worker.invariant.lists was) (c.in_ok-part.ensures.lists was);
  starts = cut_pushed (PartHolds c.args.net.now (slice_index (cells_of c.args.flow.now).residuals) (slice_index (cells_of c.args.flow.now).excess)) (λ q. q.first) (λ q. q.end) c.loop-worker.first c.border-end.result c.loop-worker.parts.items c.push.new.self.items c.in_ok-part.part
      c.in_ok-push.ensures.items c.loop-worker.invariant.starts c.in_ok-part.ensures.first c.in_ok-part.ensures.end c.in_ok-part.ensures.holds;
}

pub returns-clause-holds : goal.returns-clause-holds
returns-clause-holds c =
    let all : c.loop-worker.worker ≡ c.args.workers = omega arith in
    let last : c.loop-worker.first ≡ node_count c.args.net.now =
    c.loop-worker.invariant.reached ∙ (ap (λ (k : ℕ). border_of c.nodes-nodes.result c.args.workers k) all ∙ (border_last c.nodes-nodes.result c.args.workers c.requires.some ∙ c.nodes-nodes.ensures)) in
    subst (λ (m : ℕ). PartsHold c.args.net.now (slice_index (cells_of c.args.flow.now).residuals) (slice_index (cells_of c.args.flow.now).excess) m c.loop-worker.parts.items) last c.loop-worker.invariant.starts

pub returns-clause-shares : goal.returns-clause-shares
returns-clause-shares c = subst (λ (n : ℕ). AreFlowShares n c.args.workers c.loop-worker.parts.items) c.nodes-nodes.ensures c.loop-worker.invariant.shares
