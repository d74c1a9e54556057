use Rattle.batch_pool.proofs.CounterLaws.{counted}
use Rattle.batch_pool.proofs.laws.counter_law.Goals as goal

pub returns : goal.returns
returns c = counted
