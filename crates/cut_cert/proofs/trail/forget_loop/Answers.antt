use Rattle.std.proofs.Common.{subst, ℕ, reverse}
use Rattle.std.proofs.lemmas.Bool.{ne_eqb}
use Rattle.cut_cert.specs.Walks.{AreOn}
use Rattle.cut_cert.proofs.TrailLaws.{cut-here, still-there, longer-front}
use Rattle.cut_cert.proofs.trail.forget_loop.Goals as goal

pub returns-then-last-node-clause-to : goal.returns-then-last-node-clause-to
returns-then-last-node-clause-to c =
    cut-here c.loop-last.invariant.parts.0 (reverse c.args.nodes.now.items) (reverse c.loop-last.nodes.items) (reverse c.pop_marked.new.nodes.items) c.in-Some.last c.args.node c.loop-last.invariant.parts.1 c.in-Some.ensures.nodes
    c.if-last-node.true c.loop-last.invariant.on.apart

pub loop-last-preserved : goal.loop-last-preserved
loop-last-preserved c = record {
  there = still-there (reverse c.loop-last.nodes.items) (reverse c.pop_marked.new.nodes.items) c.in-Some.last c.args.node c.in-Some.ensures.nodes (ne_eqb c.in-Some.last c.args.node c.if-last-node.false) c.loop-last.invariant.there;
  on = subst (λ (n : ℕ). AreOn n c.pop_marked.new.marks (reverse c.pop_marked.new.nodes.items)) c.loop-last.invariant.on.long c.in-Some.ensures.on;
  parts = longer-front c.loop-last.invariant.parts.0 (reverse c.args.nodes.now.items) (reverse c.loop-last.nodes.items) (reverse c.pop_marked.new.nodes.items) c.in-Some.last c.loop-last.invariant.parts.1 c.in-Some.ensures.nodes;
}
