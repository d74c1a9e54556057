use Rattle.std.proofs.Common.{◌≡◌, ℕ, ◌<◌, ◌&&◌, ◌||◌, nat_lt, nat_le, Bool, true, false, List, refl, arith, sym, ◌∙◌, subst}
use Rattle.std.proofs.lemmas.Bool.{lt-ltb, le-leb}
use Rattle.frame_net.specs.FlowNet.{FlowNet, node_count, IsFlowNet}
use Rattle.pulse_parts.specs.Parts.{IsSound, pairs}
use Rattle.pulse_parts.specs.Delivering.{HoldPushes}
use Rattle.pulse_parts.specs.Marks.{AllMarked, DeliveredSoFar}
use Rattle.pulse.specs.Values.{FlowState, PushState}
use Rattle.pulse.specs.Conditions.{IsBetween, is_marked, state_of}
use Rattle.pulse.specs.Phases.{RangeDelivered, Turns}
use Rattle.pulse.proofs.StepLaws.{none_so_far, whole_read}
use Rattle.frame_tests.proofs.worked_pulses.pulse_by_ranges.Goals as goal

in_whole : (b : Bool) (end v : ℕ) → v < end → b || (nat_le 0 v && nat_lt v end) ≡ true
in_whole true end v h = refl
in_whole false end v h = rw (le-leb 0 v (omega arith), lt-ltb v end h) refl

-- Deliver of every node from pushes that hold, and the turn
turned : (net : FlowNet) (f d x : FlowState) (p : PushState) (end : ℕ) → IsFlowNet net → IsBetween net f → end ≡ node_count net → HoldPushes net (state_of net f) p.values
    → RangeDelivered net p 0 end f d → Turns d x → IsBetween net x
turned net f d x p end ok between all holds g turns =
    let so_far : DeliveredSoFar net d.labels p.values (is_marked d) f.cells d.cells =
    subst (λ (ls : List ℕ). DeliveredSoFar net ls p.values (is_marked d) f.cells d.cells) (sym g.labels) (g.delivered f.cells (none_so_far net f p.values between)) in
    let marked : AllMarked (node_count net) (is_marked d) = λ v h. g.marks v h ∙ in_whole (is_marked f v) end v (omega (arith, h, all)) in
    let sound : IsSound net (pairs net f.cells d.labels) = subst (λ (ls : List ℕ). IsSound net (pairs net f.cells ls)) (sym g.labels) between.sound in
    let held : HoldPushes net (pairs net f.cells d.labels) p.values = subst (λ (ls : List ℕ). HoldPushes net (pairs net f.cells ls) p.values) (sym g.labels) holds in
    (turns net p.values f.cells ok g.fits marked sound held so_far).0

pub deliver_range-requires-clause-opening : goal.deliver_range-requires-clause-opening
deliver_range-requires-clause-opening c = record {
  opening = c.args.flow.now.cells;
  sound = c.requires.flow.sound;
  is_read = whole_read c.args.net.now c.args.flow.now c.nodes-nodes.result c.args.pushes.now c.read_range.new.pushes c.known.ensures.network c.nodes-nodes.ensures c.read_range.ensures;
  so_far = none_so_far c.args.net.now c.args.flow.now c.read_range.new.pushes.values c.requires.flow;
}

pub returns-clause-flow : goal.returns-clause-flow
returns-clause-flow c =
    turned c.args.net.now c.args.flow.now c.deliver_range.new.flow c.turn.new.self c.read_range.new.pushes c.nodes-nodes.result c.known.ensures.network c.requires.flow c.nodes-nodes.ensures
    (whole_read c.args.net.now c.args.flow.now c.nodes-nodes.result c.args.pushes.now c.read_range.new.pushes c.known.ensures.network c.nodes-nodes.ensures c.read_range.ensures)
    c.deliver_range.ensures c.turn.ensures
