use Rattle.std.proofs.Common.{refl}
use Rattle.backward_circuits.proofs.StayLaws.{moved-itself}
use Rattle.backward_retiming.proofs.retiming.unmoved.Goals as goal

pub returns-in-Ok : goal.returns-in-Ok
returns-in-Ok c = λ held bound. record { moved = moved-itself c.args.circuit c.in-Ok.map c.known.ensures.netlist c.in-Ok.ensures held bound; names = refl }
