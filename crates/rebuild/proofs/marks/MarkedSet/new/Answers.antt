use Rattle.std.proofs.Common.{◌∙◌, ap}
use Rattle.aig_graph.specs.Graph.{first_latch}
use Rattle.aig_graph.specs.Move.{move_of}
use Rattle.rebuild.proofs.BorderLaws.{closed-passable}
use Rattle.rebuild.proofs.MemberLaws.{closed-fan_ins}
use Rattle.rebuild.proofs.marks.MarkedSet.new.Goals as goal

pub invariant_of-result : goal.invariant_of-result
invariant_of-result c = record {
  first_is = c.first_latch-first.ensures.value ∙ ap first_latch c.aig.ensures.value;
  graph = c.known.ensures.graph;
  netlist = c.known.ensures.netlist;
  passable = closed-passable (move_of c.args.circuit.now c.args.keep.now c.args.set.now) c.requires.closed.closed;
  fan_ins = closed-fan_ins c.args.circuit.now.aig c.args.keep.now c.args.set.now c.requires.closed.closed;
  members_are = c.requires.marked.members;
  latched_are = c.requires.marked.latched;
}
