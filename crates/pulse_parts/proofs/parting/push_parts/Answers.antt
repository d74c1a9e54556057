use Rattle.std.proofs.Common.{◌≡◌, ℕ, arith, ap, ◌∙◌, subst}
use Rattle.frame_net.specs.FlowNet.{node_count}
use Rattle.pulse_parts.specs.Parts.{PushPartFits, IsParted}
use Rattle.pulse_parts.specs.Start.{ArePushShares, border_of}
use Rattle.pulse_parts.proofs.parting.push_parts.Goals as goal
use Rattle.pulse_parts.proofs.BorderLaws.{border_last, cut_pushed, shares_pushed}

pub loop-worker-preserved : goal.loop-worker-preserved
loop-worker-preserved c = record {
  reached = c.border-end.ensures.value;
  len = omega (arith, c.loop-worker.invariant.len, c.in_ok-push.ensures.len);
  shares = shares_pushed (λ q. q.worker) (λ q. q.first) (λ q. q.end) c.nodes-nodes.result c.args.workers c.loop-worker.worker c.loop-worker.parts.items c.push.new.self.items c.in_ok-part.part
      c.in_ok-push.ensures.items c.loop-worker.invariant.shares c.loop-worker.invariant.len
      (record { number = c.in_ok-part.ensures.worker; from = c.in_ok-part.ensures.first ∙ c.loop-worker.invariant.reached; to = c.in_ok-part.ensures.end ∙ c.border-end.ensures.value });
  starts = cut_pushed (PushPartFits c.args.net.now) (λ q. q.first) (λ q. q.end) c.loop-worker.first c.border-end.result c.loop-worker.parts.items c.push.new.self.items c.in_ok-part.part
      c.in_ok-push.ensures.items c.loop-worker.invariant.starts c.in_ok-part.ensures.first c.in_ok-part.ensures.end c.in_ok-part.ensures.fits;
}

pub returns-clause-parts : goal.returns-clause-parts
returns-clause-parts c =
    let all : c.loop-worker.worker ≡ c.args.workers = omega arith in
    let last : c.loop-worker.first ≡ node_count c.args.net.now =
    c.loop-worker.invariant.reached ∙ (ap (λ (k : ℕ). border_of c.nodes-nodes.result c.args.workers k) all ∙ (border_last c.nodes-nodes.result c.args.workers c.requires ∙ c.nodes-nodes.ensures)) in
    subst (λ (m : ℕ). IsParted (PushPartFits c.args.net.now) (λ q. q.first) (λ q. q.end) m 0 c.loop-worker.parts.items) last c.loop-worker.invariant.starts

pub returns-clause-shares : goal.returns-clause-shares
returns-clause-shares c = subst (λ (n : ℕ). ArePushShares n c.args.workers c.loop-worker.parts.items) c.nodes-nodes.ensures c.loop-worker.invariant.shares
