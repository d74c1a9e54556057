use Rattle.std.proofs.Common.{◌≡◌, take, ◌≤◌, length, vec_capacity}
use Rattle.aag_text.specs.Arranging.{gates_in_order}
use Rattle.aag_text.proofs.circuit.arranging.gates.Given as goal

abbrev pub invariant-loop-place : goal.invariant-loop-place
invariant-loop-place l = record { room : length l.order ≤ vec_capacity l.found; filled : l.found.items ≡ gates_in_order l.first l.ranks (take l.place-index l.order) l.gates }
