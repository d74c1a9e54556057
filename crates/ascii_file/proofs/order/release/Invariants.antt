use Rattle.std.proofs.Common.{ℕ, ◌≡◌, ◌≤◌, ◌+◌, Some, length}
use Rattle.std.specs.BinaryHeap.{heap_items}
use Rattle.ascii_file.specs.order.Readers.{read_by}
use Rattle.ascii_file.specs.order.Ready.{Gains, IsReadyHeap, is_released}
use Rattle.ascii_file.proofs.ReadyLaws.{from}
use Rattle.ascii_file.proofs.order.release.Given as goal

-- the link leads to a reader, and those from it on are done
abbrev pub invariant-loop-link : goal.invariant-loop-link
invariant-loop-link l = record {
  within : l.link ≤ length l.gates;
  one : (g : ℕ) → g + 1 ≡ l.link → read_by l.fn.side l.gates g ≡ Some l.place;
  heap : IsReadyHeap (heap_items l.ready);
  each : Gains (from l.link (is_released l.gates l.fn.side l.marks l.place)) (heap_items l.initial.ready) (heap_items l.ready);
}

abbrev pub decreases-loop-link : goal.decreases-loop-link
decreases-loop-link l = l.link
