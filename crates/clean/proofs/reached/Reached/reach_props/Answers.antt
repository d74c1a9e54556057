use Rattle.std.proofs.Common.{◌≡◌, ◌++◌, ℕ, List}
use Rattle.std.specs.List.{flat_map}
use Rattle.clean.specs.Sweep.{reach_in_sweep, reach_all}
use Rattle.clean.proofs.FrontLaws.{sweep-same, all-then, all-since, each-since}
use Rattle.clean.proofs.reached.Reached.reach_props.Goals as goal

pub reach_all-requires-2 : goal.reach_all-requires-2
reach_all-requires-2 c = all-since reach_in_sweep sweep-same c.args.props.now.outputs c.args.props.now.bad c.args.self.now c.reach_all.new.self c.in_ok-reach_all.ensures c.requires.bad

pub reach_all-requires-3 : goal.reach_all-requires-3
reach_all-requires-3 c =
    let p = c.args.props.now in
    let two : c.reach_all-2.new.self ≡ reach_all reach_in_sweep c.args.self.now (p.outputs ++ p.bad) = all-then reach_in_sweep p.outputs p.bad c.args.self.now c.reach_all.new.self c.reach_all-2.new.self c.in_ok-reach_all.ensures c.in_ok-reach_all-2.ensures in
    all-since reach_in_sweep sweep-same (p.outputs ++ p.bad) p.constraints c.args.self.now c.reach_all-2.new.self two c.requires.constraints

pub reach_justice-requires : goal.reach_justice-requires
reach_justice-requires c =
    let p = c.args.props.now in
    let two : c.reach_all-2.new.self ≡ reach_all reach_in_sweep c.args.self.now (p.outputs ++ p.bad) = all-then reach_in_sweep p.outputs p.bad c.args.self.now c.reach_all.new.self c.reach_all-2.new.self c.in_ok-reach_all.ensures c.in_ok-reach_all-2.ensures in
    let three : c.reach_all-3.new.self ≡ reach_all reach_in_sweep c.args.self.now (p.outputs ++ p.bad ++ p.constraints) = all-then reach_in_sweep (p.outputs ++ p.bad) p.constraints c.args.self.now c.reach_all-2.new.self c.reach_all-3.new.self two c.in_ok-reach_all-3.ensures in
    each-since reach_in_sweep sweep-same (p.outputs ++ p.bad ++ p.constraints) p.justice c.args.self.now c.reach_all-3.new.self three c.requires.justice

pub reach_all-requires-4 : goal.reach_all-requires-4
reach_all-requires-4 c =
    let p = c.args.props.now in
    let flat : List ℕ = flat_map (λ lits. lits) p.justice in
    let two : c.reach_all-2.new.self ≡ reach_all reach_in_sweep c.args.self.now (p.outputs ++ p.bad) = all-then reach_in_sweep p.outputs p.bad c.args.self.now c.reach_all.new.self c.reach_all-2.new.self c.in_ok-reach_all.ensures c.in_ok-reach_all-2.ensures in
    let three : c.reach_all-3.new.self ≡ reach_all reach_in_sweep c.args.self.now (p.outputs ++ p.bad ++ p.constraints) = all-then reach_in_sweep (p.outputs ++ p.bad) p.constraints c.args.self.now c.reach_all-2.new.self c.reach_all-3.new.self two c.in_ok-reach_all-3.ensures in
    let four : c.reach_justice.new.self ≡ reach_all reach_in_sweep c.args.self.now (p.outputs ++ p.bad ++ p.constraints ++ flat) = all-then reach_in_sweep (p.outputs ++ p.bad ++ p.constraints) flat c.args.self.now c.reach_all-3.new.self c.reach_justice.new.self three c.in_ok-reach_justice.ensures in
    all-since reach_in_sweep sweep-same (p.outputs ++ p.bad ++ p.constraints ++ flat) p.fairness c.args.self.now c.reach_justice.new.self four c.requires.fairness

pub returns : goal.returns
returns c =
    let p = c.args.props.now in
    let flat : List ℕ = flat_map (λ lits. lits) p.justice in
    let two : c.reach_all-2.new.self ≡ reach_all reach_in_sweep c.args.self.now (p.outputs ++ p.bad) = all-then reach_in_sweep p.outputs p.bad c.args.self.now c.reach_all.new.self c.reach_all-2.new.self c.in_ok-reach_all.ensures c.in_ok-reach_all-2.ensures in
    let three : c.reach_all-3.new.self ≡ reach_all reach_in_sweep c.args.self.now (p.outputs ++ p.bad ++ p.constraints) = all-then reach_in_sweep (p.outputs ++ p.bad) p.constraints c.args.self.now c.reach_all-2.new.self c.reach_all-3.new.self two c.in_ok-reach_all-3.ensures in
    let four : c.reach_justice.new.self ≡ reach_all reach_in_sweep c.args.self.now (p.outputs ++ p.bad ++ p.constraints ++ flat) = all-then reach_in_sweep (p.outputs ++ p.bad ++ p.constraints) flat c.args.self.now c.reach_all-3.new.self c.reach_justice.new.self three c.in_ok-reach_justice.ensures in
    all-then reach_in_sweep (p.outputs ++ p.bad ++ p.constraints ++ flat) p.fairness c.args.self.now c.reach_justice.new.self c.reach_all-4.new.self four c.in_ok-reach_all-4.ensures
