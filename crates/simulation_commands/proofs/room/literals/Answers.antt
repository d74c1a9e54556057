use Rattle.std.proofs.Common.{ℕ, List, length, ap, arith}
use Rattle.simulation_commands.proofs.RoomLaws.{literals_counted}
use Rattle.simulation_commands.proofs.room.literals.Goals as goal

pub returns : goal.returns
returns c =
    let justice = ap (λ (lists : List (List ℕ)). length lists) c.as_slice-literals-items.ensures in
    literals_counted c.args.props.now c.loop-literals.literals-index c.loop-literals.count c.len-3.result c.saturating_add.result 18446744073709551615 (omega (arith, c.loop-literals-test.false, justice))
    c.loop-literals.invariant c.len-3.ensures c.saturating_add.ensures
