use Rattle.std.proofs.Common.{◌≡◌, take, map, ◌≤◌, length, vec_capacity}
use Rattle.aag_text.specs.Arranging.{moved_latch}
use Rattle.aag_text.proofs.circuit.arranging.latches.Given as goal

abbrev pub invariant-loop-latch : goal.invariant-loop-latch
invariant-loop-latch l = record { room : length l.latches ≤ vec_capacity l.found; filled : l.found.items ≡ map (moved_latch l.first l.ranks) (take l.latch-index l.latches) }
