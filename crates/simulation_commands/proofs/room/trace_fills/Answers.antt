use Rattle.std.proofs.Common.{ℕ, ◌*◌, ◌^◌, ◌≡◌, length, max, min, nat_lt, arith, ap, ap₂, ◌∙◌}
use Rattle.aig_graph.specs.declared.properties.Props.{Props}
use Rattle.aig_graph.specs.Streams.{property_literals}
use Rattle.simulation_commands.proofs.RoomLaws.{over_cut}
use Rattle.simulation_commands.proofs.room.trace_fills.Goals as goal

pub returns : goal.returns
returns c =
    let most : ℕ = 18446744073709551615 in
    let all : c.from.result * c.from-2.result ≡ max c.args.sequences 256 * c.args.steps = ap₂ (λ (x y : ℕ). x * y) (c.from.ensures ∙ c.max.ensures) c.from-2.ensures in
    let count : c.literals.result ≡ min (length (property_literals c.args.circuit.now.props)) most =
    c.literals.ensures ∙ ap (λ (p : Props). min (length (property_literals p)) most) c.props.ensures.value in
    c.is_over.ensures ∙ ap₂ (λ (x y : ℕ). nat_lt (2 ^ 31) (x * y)) all count
    ∙ over_cut (2 ^ 31) (max c.args.sequences 256 * c.args.steps) (length (property_literals c.args.circuit.now.props)) most (omega arith)
