use Rattle.frame_net.proofs.any_order_is_pulse.Goals as goal
use Rattle.frame_net.specs.Events.{nodes_of_events}
use Rattle.frame_net.proofs.OrderLaws.{any_order}

pub returns : goal.returns
returns c = λ n t rs ds er ed. any_order n t (nodes_of_events rs) (nodes_of_events ds) er ed
