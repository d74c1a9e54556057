use Rattle.std.proofs.Common.{ap}
use Rattle.std.proofs.lemmas.Result.{on_ok_weaker}
use Rattle.merging_rounds.specs.declared.rounds.Rounds.{Rounds}
use Rattle.commands.proofs.retiming.write_beside.Goals as goal

pub returns-clause-written : goal.returns-clause-written
returns-clause-written g c =
    on_ok_weaker c.certify.result
    (λ goes. record { between = g.O.CountedWrite.output c.map_written.new.out; map_goes = c.in_ok-map_written.ensures.written; certificates_go = goes }) c.certify.ensures.written

pub returns-clause-answer : goal.returns-clause-answer
returns-clause-answer g c = ap (λ (r : Rounds). record c.args.answer.now { rounds = r }) c.certify.ensures.rounds
