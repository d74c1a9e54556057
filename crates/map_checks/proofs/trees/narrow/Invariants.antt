use Rattle.std.proofs.Common.{ℕ, ◌≡◌, ◌<◌, length}
use Rattle.map_checks.specs.Parts.{IsMarked}
use Rattle.map_checks.proofs.trees.narrow.Given as goal

abbrev pub invariant-loop-part : goal.invariant-loop-part
invariant-loop-part l = record {
  long : length l.shown ≡ length l.fn.shown;
  both : (part : ℕ) → IsMarked l.shown part → IsMarked l.fn.shown part × (part < l.part → IsMarked l.marks part);
}
