use Rattle.std.proofs.Common.{◌≤◌, length, vec_capacity}
use Rattle.ascii_file.specs.declared.raw.RawLatch.{RawLatch}
use Rattle.aag_text.specs.Numbering.{is_placed, placed_latch}
use Rattle.aag_text.proofs.CollectingLaws.{IsMadeOf}
use Rattle.aag_text.proofs.circuit.numbering.latches.Given as goal

abbrev pub invariant-loop-latch : goal.invariant-loop-latch
invariant-loop-latch l = record { room : length l.raws ≤ vec_capacity l.found; filled : IsMadeOf (λ (latch : RawLatch). is_placed l.places l.count latch.next) (placed_latch l.places) l.raws l.latch-index l.found.items }
