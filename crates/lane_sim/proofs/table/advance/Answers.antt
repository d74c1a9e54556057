use Rattle.std.proofs.Common.{◌<◌, ap, arith, length}
use Rattle.std.proofs.lemmas.Option.{slice_get_within}
use Rattle.aig_graph.specs.Graph.{variable, variables_end}
use Rattle.lane_sim.proofs.TableLaws.{HoldsLatches-next, read_at}
use Rattle.lane_sim.proofs.table.advance.Goals as goal

pub returns : goal.returns
returns c = λ k t s h holds.
    let latches = c.latches-latch-items.ensures.value in
    HoldsLatches-next c.args.aig.now c.latches-latch-items.ensures.graph s c.args.table.now c.loop-j.state k t holds
    (λ j latch at. c.loop-j.invariant j k latch at (omega (arith, c.loop-j-test.false, ap length latches, slice_get_within c.args.aig.now.latches j latch at)) h)

pub literal_lanes-requires : goal.literal_lanes-requires
literal_lanes-requires c =
    let at = read_at c.args.aig.now.latches c.latches-latch-items.result.now c.loop-j.j c.latch-item.result c.latches-latch-items.ensures.value c.loop-j-test.true c.latch-item.is in
    let within : variable c.latch-item.result.next < variables_end c.args.aig.now = c.latches-latch-items.ensures.graph.latches c.loop-j.j c.latch-item.result at in
    omega (arith, within, c.requires.variables)
