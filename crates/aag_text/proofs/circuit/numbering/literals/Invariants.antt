use Rattle.std.proofs.Common.{◌≤◌, length, vec_capacity}
use Rattle.aag_text.specs.Numbering.{is_placed, placed}
use Rattle.aag_text.proofs.CollectingLaws.{IsMadeOf}
use Rattle.aag_text.proofs.circuit.numbering.literals.Given as goal

abbrev pub invariant-loop-lit : goal.invariant-loop-lit
invariant-loop-lit l = record { room : length l.lits ≤ vec_capacity l.found; filled : IsMadeOf (is_placed l.places l.count) (placed l.places) l.lits l.lit-index l.found.items }
