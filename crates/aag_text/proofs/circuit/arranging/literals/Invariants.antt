use Rattle.std.proofs.Common.{◌≡◌, take, map, ◌≤◌, length, vec_capacity}
use Rattle.aag_text.specs.Arranging.{moved}
use Rattle.aag_text.proofs.circuit.arranging.literals.Given as goal

abbrev pub invariant-loop-lit : goal.invariant-loop-lit
invariant-loop-lit l = record { room : length l.lits ≤ vec_capacity l.codes; filled : l.codes.items ≡ map (moved l.first l.ranks) (take l.lit-index l.lits) }
