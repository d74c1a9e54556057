use Rattle.std.proofs.Common.{◌≡◌, length}
use Rattle.clean.specs.Gathered.{AreGathered, AreMarked}
use Rattle.clean.proofs.low.gather.Given as goal

abbrev pub invariant-loop-gate : goal.invariant-loop-gate
invariant-loop-gate l = record {
  gathered : AreGathered l.copies l.start l.gate-index l.pairs;
  marked : AreMarked l.pairs l.marks;
  long : length l.marks ≡ l.start;
}
