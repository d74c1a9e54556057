use Rattle.ascii_file.proofs.GateOrderLaws.{keeps_order}
use Rattle.ascii_file.proofs.order.laws.in_order_law.Goals as goal

pub returns : goal.returns
returns c = keeps_order
