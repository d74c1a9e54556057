use Rattle.map_circuits.proofs.GrowingLaws.{compared, extends-transitive}
use Rattle.map_circuits.proofs.map_gates.MapGates.add_comparison.Goals as goal

pub returns-clause-is : goal.returns-clause-is
returns-clause-is c =
    compared c.args.self.now c.add_conjunction.new.self c.add_conjunction-2.new.self c.add_conjunction-3.new.self c.args.a c.args.b
    c.not-2.result c.not.result c.in_ok-above.above c.not-4.result c.in_ok-below.below c.not-3.result c.in_ok-both.both c.requires.graph c.requires.a c.requires.b
    c.not.ensures.same_variable c.not.ensures.other_sign c.not-2.ensures.same_variable c.not-2.ensures.other_sign
    c.not-4.ensures.same_variable c.not-4.ensures.other_sign c.not-3.ensures.same_variable c.not-3.ensures.other_sign
    c.in_ok-above.ensures.extends c.in_ok-above.ensures.is c.in_ok-below.ensures.extends c.in_ok-below.ensures.is c.in_ok-both.ensures.extends c.in_ok-both.ensures.is

pub returns-clause-extends : goal.returns-clause-extends
returns-clause-extends c =
    extends-transitive c.args.self.now c.add_conjunction-2.new.self c.add_conjunction-3.new.self
    (extends-transitive c.args.self.now c.add_conjunction.new.self c.add_conjunction-2.new.self c.in_ok-above.ensures.extends c.in_ok-below.ensures.extends) c.in_ok-both.ensures.extends

pub add_conjunction-requires-clause-graph : goal.add_conjunction-requires-clause-graph
add_conjunction-requires-clause-graph c = c.requires.graph

pub add_conjunction-requires-2-clause-graph : goal.add_conjunction-requires-2-clause-graph
add_conjunction-requires-2-clause-graph c = c.in_ok-above.ensures.extends.graph

pub add_conjunction-requires-3-clause-graph : goal.add_conjunction-requires-3-clause-graph
add_conjunction-requires-3-clause-graph c = c.in_ok-below.ensures.extends.graph
