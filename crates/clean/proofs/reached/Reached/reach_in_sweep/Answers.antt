use Rattle.std.proofs.Common.{◌≡◌, ◌<◌, ◌+◌, ◌∙◌, OnOk, ap, sym, subst, arith, ℕ, reverse}
use Rattle.aig_graph.specs.Graph.{variable}
use Rattle.clean.specs.Sweep.{Front, reach_in_sweep}
use Rattle.clean.proofs.FrontLaws.{reach-low, sweep-latch, sweep-gate}
use Rattle.clean.proofs.reached.Reached.reach_in_sweep.Goals as goal

pub returns-then-var-self : goal.returns-then-var-self
returns-then-var-self c =
    let r : Front = c.args.self.now in
    let v : ℕ = variable c.args.lit in
    let low : v < r.first = omega (arith, c.var-var.ensures.variable, c.if-var-self.true, ap (λ (s : Front). s.first) c.self.view_is) in
    sym (sweep-latch r v (omega (arith, low)) ∙ reach-low r v low)

pub returns-then-place-self : goal.returns-then-place-self
returns-then-place-self c =
    let r : Front = c.args.self.now in
    let v : ℕ = variable c.args.lit in
    let before : v < r.first + r.latches =
    omega (arith, c.var-var.ensures.variable, c.if-var-self.false, c.if-place-self.true, ap (λ (s : Front). s.first) c.self.view_is, ap (λ (s : Front). s.latches) c.self.view_is) in
    subst (λ (s : Front). OnOk c.reach.result (c.reach.new.self ≡ s)) (sym (sweep-latch r v before)) c.reach.ensures

pub returns : goal.returns
returns c =
    let r : Front = record { first = c.self.inside.first; latches = c.self.inside.latches; marks = c.self.inside.marks.items; waiting = reverse c.self.inside.waiting.items } in
    let v : ℕ = c.var-var.result in
    sym (ap (λ (s : Front). reach_in_sweep s (variable c.args.lit)) (sym c.self.view_is) ∙ ap (reach_in_sweep r) (sym c.var-var.ensures.variable) ∙ sweep-gate r v (omega (arith, c.if-var-self.false, c.if-place-self.false)))
