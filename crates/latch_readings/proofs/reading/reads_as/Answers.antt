use Rattle.std.proofs.Common.{◌∙◌, sym}
use Rattle.latch_readings.proofs.ReadingLaws.{as-of-first}
use Rattle.latch_readings.proofs.reading.reads_as.Goals as goal

pub returns-else-eq-2-clause-so : goal.returns-else-eq-2-clause-so
returns-else-eq-2-clause-so c = λ same.
    as-of-first c.args.aig.now c.args.held.now.positions.now c.args.reads.now c.args.place c.args.latch.now c.args.lit (sym c.may_merge.ensures ∙ c.if-not-may_merge.false) (c.reads_as_first.ensures.so same)
