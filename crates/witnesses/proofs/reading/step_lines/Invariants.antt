use Rattle.std.proofs.Common.{◌≡◌, [], length}
use Rattle.witnesses.specs.Reading.{steps_from}
use Rattle.witnesses.specs.Statements.{left}
use Rattle.witnesses.proofs.reading.step_lines.Given as goal

abbrev pub invariant-loop-line : goal.invariant-loop-line
invariant-loop-line l = record {
  end : l.lines.end ≡ l.fn.lines.end;
  leads : steps_from l.width l.fn.lines.end [] (left l.fn.lines) ≡ steps_from l.width l.lines.end l.steps.items (left l.lines);
}

abbrev pub decreases-loop-line : goal.decreases-loop-line
decreases-loop-line l = length l.lines.rest.now
