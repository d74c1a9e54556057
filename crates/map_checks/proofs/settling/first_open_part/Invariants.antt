use Rattle.std.proofs.Common.{[], IfSome}
use Rattle.map_checks.specs.Parts.{AreShownWhere}
use Rattle.map_checks.proofs.settling.first_open_part.Given as goal

abbrev pub invariant-loop : goal.invariant-loop
invariant-loop l = record {
  marks : AreShownWhere l.first l.second l.map [] l.marks.items;
  asked : IfSome l.asked (λ asked. AreShownWhere l.first l.second l.map [] asked.marks.items);
}
