use Rattle.std.proofs.Common.{◌∙◌, ◌<◌, ◌≤◌, arith, ◌+◌, ◌||◌, [], ap, sym, subst, ℕ, Bool, List, nat_lt, drop, length}
use Rattle.frame_net.specs.FlowNet.{FlowNet, head}
use Rattle.frame_net.specs.declared.net.Point.{Point}
use Rattle.cut_cert.specs.Steps.{IsWay, is_used, steps_of, all_steps}
use Rattle.cut_cert.proofs.MarkLaws.{next-way, ways-end, all-none, all-next, or-none, or-sum, none-used}
use Rattle.cut_cert.proofs.used_arcs.mark_routes.Goals as goal

pub loop-number-init : goal.loop-number-init
loop-number-init c = record {
  long = c.requires.long;
  ways = λ rise ways are. are;
  marks = λ rise ways are x k h l. ap (λ (b : Bool). b || nat_lt 0 (all_steps ways x (head c.args.net.now x k))) (none-used c.args.net.now (length c.args.net.now.heads) c.args.used.now c.requires.none x k);
}

pub loop-number-preserved : goal.loop-number-preserved
loop-number-preserved c =
    let net : FlowNet = c.args.net.now in
    let i : ℕ = c.loop-number.number in
    let within : i < length c.args.routes.now = omega (arith, c.loop-number-test.true, c.len-number-end.ensures) in
    record {
      long = c.mark_route.ensures.long ∙ c.loop-number.invariant.long;
      ways = λ rise ways are. (next-way net ways i c.args.routes.now [] within (c.loop-number.invariant.ways rise ways are)).ways;
      marks = λ rise ways are x k h l.
          let step = next-way net ways i c.args.routes.now [] within (c.loop-number.invariant.ways rise ways are) in
          let y : ℕ = head net x k in
          ap (λ (b : Bool). b || nat_lt 0 (all_steps (drop (i + 1) ways) x y)) (c.mark_route.ensures.marks rise step.nodes (subst (λ (r : List Point). IsWay net 0 step.nodes r) (sym (c.route.ensures [])) step.way) x k h l)
          ∙ or-sum (is_used net c.loop-number.used x k) (steps_of 0 step.nodes x y) (all_steps (drop (i + 1) ways) x y)
          ∙ ap (λ (m : ℕ). is_used net c.loop-number.used x k || nat_lt 0 m) (sym (ap (λ (ws : List (List ℕ)). all_steps ws x y) step.is ∙ all-next step.nodes (drop (i + 1) ways) x y))
          ∙ c.loop-number.invariant.marks rise ways are x k h l;
    }

pub returns : goal.returns
returns c =
    let net : FlowNet = c.args.net.now in
    let past : length c.args.routes.now ≤ c.loop-number.number = omega (arith, c.loop-number-test.false, c.len-number-end.ensures) in
    record {
      long = c.loop-number.invariant.long;
      each = λ rise ways are x k h l.
          let none = ways-end net ways c.loop-number.number c.args.routes.now past (c.loop-number.invariant.ways rise ways are) in
          sym (or-none (is_used net c.loop-number.used x k) _ (ap (λ (ws : List (List ℕ)). all_steps ws x (head net x k)) none ∙ all-none x (head net x k)))
          ∙ c.loop-number.invariant.marks rise ways are x k h l;
    }
