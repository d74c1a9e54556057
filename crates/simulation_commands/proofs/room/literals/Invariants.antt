use Rattle.std.proofs.Common.{◌≡◌, ◌+◌, List, ℕ, length, min, take}
use Rattle.std.specs.List.{sum_by}
use Rattle.simulation_commands.proofs.room.literals.Given as goal

abbrev pub invariant-loop-literals : goal.invariant-loop-literals
invariant-loop-literals l =
    l.count
    ≡ min (length l.props.outputs + length l.props.bad + length l.props.constraints + sum_by (λ (lits : List ℕ). length lits) (take l.literals-index l.props.justice)) 18446744073709551615
