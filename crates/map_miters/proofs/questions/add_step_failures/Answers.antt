use Rattle.std.proofs.lemmas.Result.{IfOk-weaker}
use Rattle.map_miters.proofs.SideLaws.{comparable, step-failures}
use Rattle.map_miters.proofs.questions.add_step_failures.Goals as goal

pub add_compared-compared-requires-clause-sides : goal.add_compared-compared-requires-clause-sides
add_compared-compared-requires-clause-sides c =
    comparable c.add_sides.new.gates c.args.first.now c.args.second.now c.args.map.now c.in_ok-sides.sides c.requires.askable c.in_ok-sides.ensures.sides

pub returns-clause-step : goal.returns-clause-step
returns-clause-step c =
    IfOk-weaker c.add_compared-compared.result _ _
    (λ found p. step-failures c.add_sides.new.gates c.args.first.now c.args.second.now c.args.map.now c.in_ok-sides.sides c.requires.askable c.in_ok-sides.ensures.sides c.add_compared-compared.new.gates found p)
    c.add_compared-compared.ensures.compared

pub add_sides-requires-clause-graph : goal.add_sides-requires-clause-graph
add_sides-requires-clause-graph c = c.requires.graph

pub add_sides-requires-clause-askable : goal.add_sides-requires-clause-askable
add_sides-requires-clause-askable c = c.requires.askable

pub add_sides-requires-clause-leaves : goal.add_sides-requires-clause-leaves
add_sides-requires-clause-leaves c = c.requires.leaves

pub add_compared-compared-requires-clause-graph : goal.add_compared-compared-requires-clause-graph
add_compared-compared-requires-clause-graph c = c.in_ok-sides.ensures.extends.graph
