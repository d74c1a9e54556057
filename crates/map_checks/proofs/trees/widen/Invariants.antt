use Rattle.std.proofs.Common.{◌⊎◌, ℕ, ◌≡◌, length}
use Rattle.map_checks.specs.Parts.{IsMarked}
use Rattle.map_checks.proofs.trees.widen.Given as goal

abbrev pub invariant-loop-part : goal.invariant-loop-part
invariant-loop-part l = record {
  long : length l.marks ≡ length l.fn.marks;
  either : (part : ℕ) → IsMarked l.marks part → IsMarked l.fn.marks part ⊎ IsMarked l.shown part;
}
