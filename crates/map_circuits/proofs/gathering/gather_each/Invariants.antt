use Rattle.std.proofs.Common.{◌≡◌, ◌≤◌, length}
use Rattle.map_circuits.specs.Gathering.{GathersOn}
use Rattle.map_circuits.proofs.gathering.gather_each.Given as goal

abbrev pub invariant-loop-k : goal.invariant-loop-k
invariant-loop-k l = record {
  few : l.after ≤ l.k;
  long : length l.entries ≡ length l.fn.entries;
  gathered : GathersOn l.from l.k l.marks l.fn.entries l.entries l.kept l.after;
}
