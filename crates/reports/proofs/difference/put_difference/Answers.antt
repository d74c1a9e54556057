use Rattle.reports.specs.Differences.{difference_text}
use Rattle.reports.proofs.difference.put_difference.Goals as goal

pub returns-in-Some : goal.returns-in-Some
unfolding difference_text
returns-in-Some g c = rw c.in-Some.is c.put_place.ensures

pub returns-in-None : goal.returns-in-None
unfolding difference_text
returns-in-None g c = rw c.in-None.is c.put.ensures
