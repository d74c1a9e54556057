use Rattle.std.proofs.Common.{◌≡◌, slice_index_or, false}
use Rattle.cut_cert.specs.Gates.{gates_of_nodes_below}
use Rattle.cut_cert.proofs.nearest.gates_of.Given as goal

abbrev pub invariant-loop-v : goal.invariant-loop-v
invariant-loop-v l = l.gates.items ≡ gates_of_nodes_below l.fn.net (λ u. slice_index_or l.fn.marks u false) l.v
