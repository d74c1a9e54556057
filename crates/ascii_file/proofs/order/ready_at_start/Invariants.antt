use Rattle.std.proofs.Common.{[]}
use Rattle.std.specs.BinaryHeap.{heap_items}
use Rattle.ascii_file.specs.order.Order.{may_follow}
use Rattle.ascii_file.specs.order.Ready.{Gains, IsReadyHeap}
use Rattle.ascii_file.proofs.ReadyLaws.{before}
use Rattle.ascii_file.proofs.order.ready_at_start.Given as goal

abbrev pub invariant-loop-place : goal.invariant-loop-place
invariant-loop-place l = record {
  heap : IsReadyHeap (heap_items l.ready);
  each : Gains (before l.place (may_follow l.gates [])) [] (heap_items l.ready);
}
