use Rattle.std.proofs.Common.{◌≡◌, ◌≤◌, length}
use Rattle.witnesses.specs.Statements.{left}
use Rattle.witnesses.proofs.lines.following.Given as goal

abbrev pub invariant-loop-line : goal.invariant-loop-line
invariant-loop-line l = record {
  end : l.lines.end ≡ l.fn.lines.end;
  shorter : length l.lines.rest.now ≤ length l.fn.lines.rest.now;
  same : left l.fn.lines ≡ left l.lines;
}

abbrev pub decreases-loop-line : goal.decreases-loop-line
decreases-loop-line l = length l.lines.rest.now
