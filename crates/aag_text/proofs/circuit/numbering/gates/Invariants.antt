use Rattle.std.proofs.Common.{◌≤◌, length, vec_capacity}
use Rattle.aag_text.specs.Numbering.{is_gate_placed, placed_gate}
use Rattle.aag_text.proofs.CollectingLaws.{IsMadeOf}
use Rattle.aag_text.proofs.circuit.numbering.gates.Given as goal

abbrev pub invariant-loop-raw : goal.invariant-loop-raw
invariant-loop-raw l = record { room : length l.raws ≤ vec_capacity l.found; filled : IsMadeOf (is_gate_placed l.places l.count) (placed_gate l.places) l.raws l.raw-index l.found.items }
