use Rattle.std.proofs.Common.{◌≡◌, ◌-◌, length}
use Rattle.std.specs.BinaryHeap.{heap_items}
use Rattle.ascii_file.specs.order.Order.{order_from, ordered}
use Rattle.ascii_file.specs.order.Ready.{IsState}
use Rattle.ascii_file.proofs.order.sorted.Given as goal

-- going on from here gives the order
abbrev pub invariant-loop-place : goal.invariant-loop-place
invariant-loop-place l = record {
  size : length l.order.items ≡ l.place;
  state : IsState l.gates l.order.items l.marks (heap_items l.ready);
  rest : order_from l.gates l.order.items (length l.gates - l.place) ≡ ordered l.gates;
}
