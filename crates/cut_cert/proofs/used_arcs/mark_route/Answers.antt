use Rattle.std.proofs.Common.{◌≡◌, ◌∙◌, ◌+◌, ◌||◌, ap, sym, subst, arith, ℕ, List, nat_lt, drop, length, refl}
use Rattle.std.proofs.lemmas.Option.{none-some, same_Some}
use Rattle.frame_net.specs.FlowNet.{FlowNet, head, point_of}
use Rattle.cut_cert.specs.Steps.{IsWay, is_used, steps_of}
use Rattle.cut_cert.proofs.MarkLaws.{next, ends, mark-more, steps-none, or-none}
use Rattle.cut_cert.proofs.used_arcs.mark_route.Goals as goal

pub loop-point-init : goal.loop-point-init
loop-point-init c = record {
  long = refl;
  node = omega (arith, c.known.ensures.network.two);
  way = λ rise nodes way. way;
  marks = λ rise nodes way x k h l. refl;
}

pub returns-in-None-clause-marks : goal.returns-in-None-clause-marks
returns-in-None-clause-marks c = λ rise nodes way.
    let net : FlowNet = c.args.net.now in
    let step = next net c.loop-point.node nodes c.loop-point.point-index c.args.route.now _ c.loop-point-test.true (c.loop-point.invariant.way rise nodes way) in
    absurd (none-some _ ((c.in-None.ensures.there rise step.leads.0 step.leads.1.0 (ap (point_of net) step.leads.1.1 ∙ step.point)).0))

pub loop-point-preserved : goal.loop-point-preserved
loop-point-preserved c =
    let net : FlowNet = c.args.net.now in
    let i : ℕ = c.loop-point.point-index in
    record {
      long = c.mark_step.ensures.long ∙ c.loop-point.invariant.long;
      node = c.in-Some.ensures.head;
      way = λ rise nodes way.
          let step = next net c.loop-point.node nodes i c.args.route.now _ c.loop-point-test.true (c.loop-point.invariant.way rise nodes way) in
          let done = c.in-Some.ensures.there rise step.leads.0 step.leads.1.0 (ap (point_of net) step.leads.1.1 ∙ step.point) in
          let same : step.node ≡ c.in-Some.next = sym (same_Some _ _ done.0 ∙ step.leads.1.1) in
          subst (λ (v : ℕ). IsWay net v (drop (i + 1) nodes) (drop (i + 1) c.args.route.now)) same step.way;
      marks = λ rise nodes way x k h l.
          let step = next net c.loop-point.node nodes i c.args.route.now _ c.loop-point-test.true (c.loop-point.invariant.way rise nodes way) in
          let done = c.in-Some.ensures.there rise step.leads.0 step.leads.1.0 (ap (point_of net) step.leads.1.1 ∙ step.point) in
          let same : c.in-Some.next ≡ step.node = same_Some _ _ done.0 ∙ step.leads.1.1 in
          let long : length c.loop-point.used ≡ length net.heads = c.loop-point.invariant.long ∙ c.requires in
          ap (λ (v : ℕ). is_used net c.mark_step.new.used x k || nat_lt 0 (steps_of v (drop (i + 1) nodes) x (head net x k))) same
          ∙ mark-more net c.known.ensures.network c.loop-point.used c.mark_step.new.used long c.loop-point.node step.leads.0 step.node c.loop-point.invariant.node step.leads.1.0 step.leads.1.1 done.1 (drop (i + 1) nodes) x k h l
          ∙ ap (λ (ns : List ℕ). is_used net c.loop-point.used x k || nat_lt 0 (steps_of c.loop-point.node ns x (head net x k))) (sym step.is)
          ∙ c.loop-point.invariant.marks rise nodes way x k h l;
    }

pub returns-clause-marks : goal.returns-clause-marks
returns-clause-marks c = λ rise nodes way x k h l.
    let net : FlowNet = c.args.net.now in
    let none = ends net c.loop-point.node nodes c.loop-point.point-index c.args.route.now c.loop-point-test.false (c.loop-point.invariant.way rise nodes way) in
    sym (or-none (is_used net c.loop-point.used x k) _ (ap (λ (ns : List ℕ). steps_of c.loop-point.node ns x (head net x k)) none ∙ steps-none c.loop-point.node x (head net x k)))
    ∙ c.loop-point.invariant.marks rise nodes way x k h l
