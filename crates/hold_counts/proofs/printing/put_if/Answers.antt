use Rattle.hold_counts.proofs.printing.put_if.Goals as goal

pub returns-then-holds : goal.returns-then-holds
returns-then-holds g c = rw c.if-holds.true c.put_line.ensures
