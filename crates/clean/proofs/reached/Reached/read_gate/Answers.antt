use Rattle.std.proofs.Common.{◌≡◌, ◌∷◌, [], ◌∙◌, ap, sym}
use Rattle.aig_graph.specs.Graph.{variable}
use Rattle.clean.specs.Sweep.{Front, reach_in_sweep, reach_all}
use Rattle.clean.proofs.FrontLaws.{sweep-same, within-since, all-one, all-two}
use Rattle.clean.proofs.reached.Reached.read_gate.Goals as goal

pub reach_in_sweep-requires-2 : goal.reach_in_sweep-requires-2
reach_in_sweep-requires-2 c =
    let one : c.reach_in_sweep.new.self ≡ reach_all reach_in_sweep c.args.self.now (c.args.gate.rhs0 ∷ []) = c.in_ok-reach_in_sweep.ensures ∙ sym (all-one reach_in_sweep c.args.self.now c.args.gate.rhs0) in
    within-since reach_in_sweep sweep-same (c.args.gate.rhs0 ∷ []) c.args.self.now c.reach_in_sweep.new.self (variable c.args.gate.rhs1) one c.requires.smaller

pub returns : goal.returns
returns c =
    c.in_ok-reach_in_sweep-2.ensures ∙ ap (λ (s : Front). reach_in_sweep s (variable c.args.gate.rhs1)) c.in_ok-reach_in_sweep.ensures
    ∙ sym (all-two reach_in_sweep c.args.self.now c.args.gate.rhs0 c.args.gate.rhs1)
