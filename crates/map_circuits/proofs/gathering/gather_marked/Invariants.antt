use Rattle.std.proofs.Common.{ℕ, Bool, ◌≡◌, ◌+◌, ◌-◌, ◌≤◌, length}
use Rattle.aig_graph.specs.Marking.{AreAllMarks}
use Rattle.map_circuits.specs.Gathering.{IsGathered}
use Rattle.map_circuits.proofs.gathering.gather_marked.Given as goal

abbrev pub invariant-loop-from : goal.invariant-loop-from
invariant-loop-from l = record {
  few : l.kept ≤ l.from;
  inside : l.from ≤ l.count;
  long : length l.entries ≡ length l.fn.entries;
  gathered : (first : ℕ) (p : ℕ → Bool) → AreAllMarks first l.marks p → IsGathered first p (first + l.from) l.fn.entries l.entries l.kept;
}

abbrev pub decreases-loop-from : goal.decreases-loop-from
decreases-loop-from l = l.count - l.from
