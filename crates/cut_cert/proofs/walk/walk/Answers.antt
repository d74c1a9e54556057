use Rattle.std.proofs.Common.{◌∙◌, sym, subst, ℕ, List, length, reverse}
use Rattle.cut_cert.specs.Walks.{AreOn}
use Rattle.cut_cert.proofs.RouteLaws.{SoFar, begins, goes-back, falls, arrives, searched-lower}
use Rattle.cut_cert.proofs.walk.walk.Goals as goal

pub loop-tail-init : goal.loop-tail-init
loop-tail-init c = record {
  far = subst (λ (nodes : List ℕ). SoFar c.args.net.now c.args.carried.now c.lower-at.new.carried (length c.args.marks.now) c.args.marks.now c.lower-at.result (reverse nodes)) (sym c.new-nodes.ensures.items)
      (begins c.args.net.now c.known.ensures.network c.args.carried.now c.lower-at.new.carried (length c.args.marks.now) c.args.marks.now c.args.end c.lower-at.result c.requires.long c.requires.comes
      c.lower-at.ensures.carried c.lower-at.ensures.tail c.requires.clear);
  searched = searched-lower c.args.net.now c.known.ensures.network c.args.carried.now c.lower-at.new.carried c.args.places.now 1 c.args.end c.requires.long c.requires.comes c.lower-at.ensures.carried c.requires.searched;
}

pub loop-tail-smaller : goal.loop-tail-smaller
loop-tail-smaller c =
    falls c.args.net.now c.known.ensures.network c.args.carried.now c.loop-tail.carried c.step_back.new.carried (length c.args.marks.now) c.loop-tail.marks c.loop-tail.at c.in-Some.tail (reverse c.loop-tail.nodes.items)
    c.loop-tail.invariant.far c.in-Some.ensures.step

pub loop-tail-preserved : goal.loop-tail-preserved
loop-tail-preserved c = record {
  far = goes-back c.args.net.now c.known.ensures.network c.args.carried.now c.loop-tail.carried c.step_back.new.carried (length c.args.marks.now) c.loop-tail.marks c.come_to.new.marks c.loop-tail.at c.in-Some.tail
      (reverse c.loop-tail.nodes.items) (reverse c.push_marked.new.nodes.items) (reverse c.come_to.new.nodes.items) c.loop-tail.invariant.far c.in-Some.ensures.step c.in_ok-push_marked.ensures.nodes
      (subst (λ (n : ℕ). AreOn n c.come_to.new.marks (reverse c.come_to.new.nodes.items)) (c.in_ok-push_marked.ensures.on.long ∙ c.loop-tail.invariant.far.on.long) c.come_to.ensures.on) c.come_to.ensures.to;
  searched = c.step_back.ensures.searched;
}

pub returns-clause-route : goal.returns-clause-route
returns-clause-route c =
    arrives c.args.net.now c.known.ensures.network c.args.carried.now c.loop-tail.carried c.step_back.new.carried (length c.args.marks.now) c.loop-tail.marks c.loop-tail.at (reverse c.loop-tail.nodes.items) c.requires.sized
    c.loop-tail.invariant.far c.in_default.ensures.step
