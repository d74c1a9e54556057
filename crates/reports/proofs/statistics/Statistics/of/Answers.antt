use Rattle.reports.proofs.CountLaws.{statistics-is}
use Rattle.reports.proofs.statistics.Statistics.of.Goals as goal

pub returns : goal.returns
returns c = statistics-is c.args.circuit.now c.in_ok-counts.counts c.in_ok-passable.passable c.in_ok-counts.ensures c.in_ok-passable.ensures
