use Rattle.std.proofs.Common.{◌≡◌, ◌<◌, ◌∷◌, [], ◌∙◌, ap, sym}
use Rattle.aig_graph.specs.Graph.{variable}
use Rattle.clean.specs.Sweep.{Front, front_end, reach, reach_all}
use Rattle.clean.proofs.FrontLaws.{reach-same, all-nil, within-since, all-one, all-two}
use Rattle.clean.proofs.ReadsLaws.{from-gate, from-latch, reads-gate, reads-latch, reads-none}
use Rattle.clean.proofs.reached.Reached.read.Goals as goal

pub reach-requires : goal.reach-requires
reach-requires c =
    (from-gate c.args.aig.now (λ lit. variable lit < front_end c.args.self.now) c.args.var c.in-Some.gate c.requires (sym c.gate.ensures ∙ c.in-Some.is)).0

pub reach-requires-in-Some : goal.reach-requires-in-Some
reach-requires-in-Some c =
    let both = from-gate c.args.aig.now (λ lit. variable lit < front_end c.args.self.now) c.args.var c.in-Some.gate c.requires (sym c.gate.ensures ∙ c.in-Some.is) in
    let one : c.reach.new.self ≡ reach_all reach c.args.self.now (c.in-Some.gate.rhs0 ∷ []) = c.in_ok-reach.ensures ∙ sym (all-one reach c.args.self.now c.in-Some.gate.rhs0) in
    within-since reach reach-same (c.in-Some.gate.rhs0 ∷ []) c.args.self.now c.reach.new.self (variable c.in-Some.gate.rhs1) one both.1

pub reach-requires-in-Some-latch : goal.reach-requires-in-Some-latch
reach-requires-in-Some-latch c =
    from-latch c.args.aig.now (λ lit. variable lit < front_end c.args.self.now) c.args.var c.in-Some-latch.latch c.requires (sym c.latch.ensures ∙ c.in-Some-latch.is)

pub returns-in_ok-reach-2 : goal.returns-in_ok-reach-2
returns-in_ok-reach-2 c =
    c.in_ok-reach-2.ensures ∙ ap (λ (s : Front). reach s (variable c.in-Some.gate.rhs1)) c.in_ok-reach.ensures
    ∙ sym (ap (reach_all reach c.args.self.now) (reads-gate c.args.aig.now c.args.var c.in-Some.gate (sym c.gate.ensures ∙ c.in-Some.is)) ∙ all-two reach c.args.self.now c.in-Some.gate.rhs0 c.in-Some.gate.rhs1)

pub returns-in_ok-reach-3 : goal.returns-in_ok-reach-3
returns-in_ok-reach-3 c =
    c.in_ok-reach-3.ensures
    ∙ sym (ap (reach_all reach c.args.self.now) (reads-latch c.args.aig.now c.args.var c.in-Some-latch.latch (sym c.gate.ensures ∙ c.in_default.is) (sym c.latch.ensures ∙ c.in-Some-latch.is)) ∙ all-one reach c.args.self.now c.in-Some-latch.latch.next)

pub returns-in_default-latch : goal.returns-in_default-latch
returns-in_default-latch c =
    sym (ap (reach_all reach c.args.self.now) (reads-none c.args.aig.now c.args.var (sym c.gate.ensures ∙ c.in_default.is) (sym c.latch.ensures ∙ c.in_default-latch.is)) ∙ all-nil reach c.args.self.now)
