-- Ranges of parts, with and without what the parts hold.
use Rattle.std.proofs.Common.{◌≡◌, ℕ, ◌+◌, List, [], ◌∷◌, length, map, arith}
use Rattle.frame_net.specs.FlowNet.{FlowNet}
use Rattle.pulse_parts.specs.declared.parts.FlowPart.{FlowPart}
use Rattle.pulse_parts.specs.declared.parts.PushPart.{PushPart}
use Rattle.pulse_parts.specs.Parts.{AreFlowParts, ArePushParts}
use Rattle.pulse_parts.specs.Start.{AreShares}
use Rattle.pulse.specs.Values.{AreFlowRanges, ArePushRanges, AreRangesOf, flow_range, push_range}

-- the ranges of parts say all that makes them parts of a network's flow, or of its pushes
pub flow_parts : (net : FlowNet) (v : ℕ) (qs : List FlowPart) → AreFlowRanges net v (map flow_range qs) → AreFlowParts net v qs
flow_parts net v [] cut = cut
flow_parts net v (q ∷ qs) cut =
    let fit = cut.1.0 in
    (cut.0, (record { ordered = fit.ordered; within = fit.within; based = fit.based; sized = fit.sized; nodes = fit.nodes; same = fit.same }, flow_parts net q.end qs cut.1.1))

-- the ranges of a flow's parts hold the nodes that the parts hold, end to end
pub flow_ranges : (net : FlowNet) (v : ℕ) (qs : List FlowPart) → AreFlowParts net v qs → AreFlowRanges net v (map flow_range qs)
flow_ranges net v [] cut = cut
flow_ranges net v (q ∷ qs) cut =
    let fit = cut.1.0 in
    (cut.0, (record { ordered = fit.ordered; within = fit.within; based = fit.based; sized = fit.sized; nodes = fit.nodes; same = fit.same }, flow_ranges net q.end qs cut.1.1))

-- parts of pushes whose ranges hold the nodes, end to end, hold their rows
pub push_parts : (net : FlowNet) (v : ℕ) (ps : List PushPart) → ArePushRanges net v (map push_range ps) → ArePushParts net v ps
push_parts net v [] cut = cut
push_parts net v (p ∷ ps) cut =
    let fit = cut.1.0 in
    (cut.0, (record { ordered = fit.ordered; within = fit.within; based = fit.based; sized = fit.sized; lists = record { within = fit.listed; rest = fit.rest } }, push_parts net p.end ps cut.1.1))

-- the ranges of parts of pushes hold the nodes that the parts hold, end to end
pub push_ranges : (net : FlowNet) (v : ℕ) (ps : List PushPart) → ArePushParts net v ps → ArePushRanges net v (map push_range ps)
push_ranges net v [] cut = cut
push_ranges net v (p ∷ ps) cut =
    let fit = cut.1.0 in
    (cut.0, (record { ordered = fit.ordered; within = fit.within; based = fit.based; sized = fit.sized; listed = fit.lists.within; rest = fit.lists.rest }, push_ranges net p.end ps cut.1.1))

-- if parts are the workers' shares, their ranges are the workers'
pub flow_ranges_of : (nodes workers k : ℕ) (qs : List FlowPart) → AreShares (λ q. q.worker) (λ q. q.first) (λ q. q.end) nodes workers k qs → k + length qs ≡ workers → AreRangesOf (λ r. r.first) (λ r. r.end) nodes workers k (map flow_range qs)
flow_ranges_of nodes workers k [] shares count = omega (arith, count)
flow_ranges_of nodes workers k (q ∷ qs) shares count = (shares.0.from, (shares.0.to, flow_ranges_of nodes workers (k + 1) qs shares.1 (omega (arith, count))))

-- if parts of pushes are the workers' shares, their ranges are the workers'
pub push_ranges_of : (nodes workers k : ℕ) (ps : List PushPart) → AreShares (λ p. p.worker) (λ p. p.first) (λ p. p.end) nodes workers k ps → k + length ps ≡ workers → AreRangesOf (λ r. r.first) (λ r. r.end) nodes workers k (map push_range ps)
push_ranges_of nodes workers k [] shares count = omega (arith, count)
push_ranges_of nodes workers k (p ∷ ps) shares count = (shares.0.from, (shares.0.to, push_ranges_of nodes workers (k + 1) ps shares.1 (omega (arith, count))))
