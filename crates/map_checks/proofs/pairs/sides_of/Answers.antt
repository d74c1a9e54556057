use Rattle.std.proofs.Common.{subst}
use Rattle.aig_graph.specs.Graph.{Graph}
use Rattle.gate_sharing.specs.Equal.{Equal, StaysRight}
use Rattle.aig_graph.specs.Gates.{Gates}
use Rattle.map_checks.specs.Images.{IsFaithfulCopy, Learns, in_map, in_second_mapped}
use Rattle.gate_sharing.proofs.SharedLaws.{grows-transitive}
use Rattle.map_checks.proofs.ImageLaws.{shared-later}
use Rattle.map_checks.proofs.SideLaws.{are-sides}
use Rattle.map_checks.proofs.pairs.sides_of.Goals as goal

pub second_side-requires-clause-within : goal.second_side-requires-clause-within
second_side-requires-clause-within c =
    shared-later c.image.new.shared c.later_side.new.shared c.in_ok-image.image
    (grows-transitive c.image.new.shared c.first_side.new.shared c.later_side.new.shared c.in_ok-before.ensures.grows c.in_ok-later.ensures.grows) c.in_ok-image.ensures.view.within

pub returns-clause-sides : goal.returns-clause-sides
returns-clause-sides c =
    let g : Graph = c.args.first.now.aig in
    are-sides c.args.first.now c.args.second.now c.args.map.now c.learn_all.new.shared c.image.new.shared c.first_side.new.shared c.later_side.new.shared c.second_side.new.shared
    c.args.equal.now c.learn_all.new.equal c.image.new.equal c.first_side.new.equal c.later_side.new.equal c.second_side.new.equal
    c.in_ok-image.image c.in_ok-before.before c.in_ok-later.later c.in_ok-after.after
    (subst (λ (h : Graph). Learns c.learn_all.new.shared h c.args.map.now c.args.equal.now c.learn_all.new.equal) c.aig.ensures.value c.in_ok-learn_all.ensures.learns)
    c.in_ok-image.ensures.grows c.in_ok-image.ensures.right
    (subst (λ (h : Graph). IsFaithfulCopy c.image.new.shared c.learn_all.new.equal h c.args.map.now.aig (in_map c.args.map.now) c.in_ok-image.image) c.aig-2.ensures.value c.in_ok-image.ensures.view)
    c.in_ok-before.ensures.grows c.in_ok-before.ensures.right c.in_ok-before.ensures.view
    c.in_ok-later.ensures.grows c.in_ok-later.ensures.right c.in_ok-later.ensures.view
    c.in_ok-after.ensures.grows c.in_ok-after.ensures.right
    (subst (λ (h : Graph). (e : Equal) → StaysRight e c.later_side.new.equal → IsFaithfulCopy c.later_side.new.shared e h c.args.map.now.aig (in_map c.args.map.now) c.in_ok-image.image
    → IsFaithfulCopy c.second_side.new.shared e h c.args.second.now.aig (in_second_mapped c.args.second.now c.args.map.now) c.in_ok-after.after) c.aig-3.ensures.value c.in_ok-after.ensures.view)

pub returns-clause-grows : goal.returns-clause-grows
returns-clause-grows c =
    let k : Gates = c.args.shared.now in
    let k1 : Gates = c.learn_all.new.shared in
    let k2 : Gates = c.image.new.shared in
    let k3 : Gates = c.first_side.new.shared in
    let k4 : Gates = c.later_side.new.shared in
    let k5 : Gates = c.second_side.new.shared in
    grows-transitive k k4 k5
    (grows-transitive k k3 k4 (grows-transitive k k2 k3 (grows-transitive k k1 k2 c.in_ok-learn_all.ensures.grows c.in_ok-image.ensures.grows) c.in_ok-before.ensures.grows) c.in_ok-later.ensures.grows)
    c.in_ok-after.ensures.grows
