use Rattle.ascii_file.proofs.GateOrderLaws.{ordered_law, at_most_one}
use Rattle.ascii_file.proofs.CycleLaws.{each_once, reads_before}
use Rattle.ascii_file.proofs.order.laws.order_laws.Goals as goal

pub returns-clause-computed : goal.returns-clause-computed
returns-clause-computed c = ordered_law

pub returns-clause-one : goal.returns-clause-one
returns-clause-one c = at_most_one

pub returns-clause-each : goal.returns-clause-each
returns-clause-each c = each_once

pub returns-clause-before : goal.returns-clause-before
returns-clause-before c = reads_before
