use Rattle.aig_graph.proofs.ClosedLaws.{closed_set_iff_rests}
use Rattle.aig_graph.proofs.closed.is_closed.Goals as goal

pub returns : goal.returns
returns c =
    let laws = closed_set_iff_rests c.args.aig.now c.args.keep.now c.known.ensures c.args.set.now c.each_rests_on.ensures.rising in
    ((λ yes. laws.1 (c.each_rests_on.ensures.value.0 yes)), (λ closed. c.each_rests_on.ensures.value.1 (laws.0 closed)))
