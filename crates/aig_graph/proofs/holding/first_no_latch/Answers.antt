use Rattle.std.proofs.Common.{◌<◌, ℕ, subst}
use Rattle.std.proofs.lemmas.List.{take_all}
use Rattle.std.proofs.lemmas.List.Elements.{All-more}
use Rattle.aig_graph.specs.Keep.{AreLatches}
use Rattle.aig_graph.proofs.holding.first_no_latch.Goals as goal

pub loop-k-preserved : goal.loop-k-preserved
loop-k-preserved c =
    All-more (λ (j : ℕ). j < c.args.latches) c.args.positions.now c.loop-k.k 0 c.loop-k-test.true c.loop-k.invariant c.if-position-latches.false

pub returns : goal.returns
returns c = subst (AreLatches c.args.latches) (take_all c.loop-k.k c.args.positions.now c.loop-k-test.false) c.loop-k.invariant
