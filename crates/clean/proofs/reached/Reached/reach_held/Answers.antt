use Rattle.std.proofs.Common.{◌≡◌, ◌+◌, ◌*◌, ap, sym, arith, ℕ, length, map, take, get_or}
use Rattle.clean.specs.Sweep.{Front, reach}
use Rattle.clean.proofs.FrontLaws.{reach-same, all-nil, held-more, all-end}
use Rattle.clean.proofs.reached.Reached.reach_held.Goals as goal

pub loop-position-init : goal.loop-position-init
loop-position-init c = sym (all-nil reach c.args.self.now)

pub overflow_add-first : goal.overflow_add-first
overflow_add-first c =
    let here = c.requires c.loop-position.position-index 0 c.loop-position-test.true in
    omega (arith, here, c.self.invariant, ap (λ (r : Front). r.first) c.self.view_is, ap (λ (r : Front). length r.marks) c.self.view_is)

pub new-requires : goal.new-requires
new-requires c =
    let here = c.requires c.loop-position.position-index 0 c.loop-position-test.true in
    omega (arith, here, c.self.invariant, ap (λ (r : Front). r.first) c.self.view_is, ap (λ (r : Front). length r.marks) c.self.view_is)

pub reach-requires : goal.reach-requires
reach-requires c =
    let here = c.requires c.loop-position.position-index 0 c.loop-position-test.true in
    let r : Front = c.args.self.now in
    omega (arith, here, c.new.ensures, ap (λ (s : Front). s.first) c.self.view_is, all-end reach reach-same (map (λ (j : ℕ). 2 * (r.first + j)) (take c.loop-position.position-index c.args.held.now)) r c.loop-position.self c.loop-position.invariant)

pub loop-position-preserved : goal.loop-position-preserved
loop-position-preserved c =
    let r : Front = c.args.self.now in
    let first : c.self.inside.first ≡ r.first = ap (λ (s : Front). s.first) c.self.view_is in
    let is : c.new.result ≡ 2 * (r.first + get_or c.args.held.now c.loop-position.position-index 0) = omega (arith, c.new.ensures, first) in
    held-more reach r c.loop-position.self c.reach.new.self r.first c.args.held.now c.loop-position.position-index c.new.result c.loop-position-test.true is c.loop-position.invariant c.in_ok-reach.ensures
