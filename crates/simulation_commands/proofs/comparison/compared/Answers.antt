use Rattle.std.proofs.lemmas.Result.{IfOk-weaker}
use Rattle.simulation_commands.proofs.comparison.compared.Goals as goal

pub returns-in-Ok : goal.returns-in-Ok
returns-in-Ok g c = IfOk-weaker c.compared_under-found.result _ _ (λ finding found. record { pair = c.in-Ok.pair; between = g.I.CountedRead.input c.pair_at.new.stdin; read = c.in-Ok.ensures; found = found }) c.compared_under-found.ensures
