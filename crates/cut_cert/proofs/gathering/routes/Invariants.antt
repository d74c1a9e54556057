use Rattle.std.proofs.Common.{[]}
use Rattle.frame_net.specs.FlowNet.{node_count}
use Rattle.cut_cert.specs.Walks.{AreOn, AreSearched, total_outflow}
use Rattle.cut_cert.proofs.RouteLaws.{Gathering}
use Rattle.cut_cert.proofs.gathering.routes.Given as goal

abbrev pub invariant-loop-end : goal.invariant-loop-end
invariant-loop-end l = record {
  gathering : Gathering l.net l.preflow l.carried.items l.routes l.place;
  searched : AreSearched l.net l.carried.items l.places.items;
  clear : AreOn (node_count l.net) l.marks.items [];
}

abbrev pub decreases-loop-end : goal.decreases-loop-end
decreases-loop-end l = total_outflow l.net l.carried.items
