use Rattle.std.proofs.Common.{◌+◌}
use Rattle.aig_graph.specs.Graph.{first_latch}
use Rattle.sealed_drafts.specs.Sealed.{AreStanding}
use Rattle.sealed_drafts.proofs.props.standing.Given as goal

abbrev pub invariant-loop-literal : goal.invariant-loop-literal
invariant-loop-literal l = AreStanding (first_latch l.aig + l.literal-index) l.end l.all
