use Rattle.std.proofs.Common.{[], ◌≡◌, ◌+◌, length}
use Rattle.aig_graph.specs.declared.choice.Choice.{Choice}
use Rattle.certificate_files.specs.Steps.{lines_of_next, rest_after_parts, rest_of_part}
use Rattle.certificate_files.proofs.parts.parts_from.Given as goal

abbrev pub invariant-loop-next : goal.invariant-loop-next
invariant-loop-next l = (choice : Choice) → rest_of_part choice [] l.fn.count l.fn.lines.end l.fn.lines.rest.now ≡ rest_after_parts choice l.parts.items l.next l.lines.end l.lines.rest.now

abbrev pub decreases-loop-next : goal.decreases-loop-next
decreases-loop-next l = length l.lines.rest.now + lines_of_next l.next
