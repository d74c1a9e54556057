use Rattle.std.proofs.Common.{◌≡◌, true}
use Rattle.pulse_parts.proofs.VisitLaws.{ListsFirst}
use Rattle.pulse_parts.proofs.whole.list_turning.Given as goal

abbrev pub invariant-loop-i : goal.invariant-loop-i
invariant-loop-i l = l.list.complete ≡ true → ListsFirst l.nodes l.labels l.first l.excess l.next l.i l.list.nodes.items
