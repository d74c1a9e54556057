use Rattle.std.proofs.Common.{ℕ, Bool, ◌≡◌, ◌+◌, ◌≤◌, ◌<◌, length, get_or, map, take}
use Rattle.aig_graph.specs.Counting.{count_below}
use Rattle.aig_graph.specs.Marking.{AreAllMarks}
use Rattle.rebuild.proofs.ranks.ranks_of.Given as goal

abbrev pub invariant-loop-place : goal.invariant-loop-place
invariant-loop-place l = record {
  few : l.rank ≤ l.from;
  ahead : (k : ℕ) → l.place-index ≤ k → k < length l.places → l.from ≤ get_or l.places k 0;
  last : (first : ℕ) (p : ℕ → Bool) → AreAllMarks first l.marks p → l.rank ≡ count_below p (first + l.from);
  ranked : (first : ℕ) (p : ℕ → Bool) → AreAllMarks first l.marks p → l.ranks.items ≡ map (λ place. count_below p (first + place)) (take l.place-index l.places);
}
