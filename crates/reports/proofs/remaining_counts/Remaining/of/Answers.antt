use Rattle.reports.proofs.RemainingLaws.{remaining-is}
use Rattle.reports.proofs.remaining_counts.Remaining.of.Goals as goal

pub returns : goal.returns
returns c =
    remaining-is c.args.circuit.now c.args.keep.now c.args.bound c.args.is_least c.in_ok-counts.counts c.in_ok-held_back.held_back c.in_ok-counts.ensures c.in_ok-held_back.ensures
