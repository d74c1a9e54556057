use Rattle.map_miters.proofs.ties.add_constraints.Goals.{then-tied+in_ok-add_start+in_ok-push, else-tied}
use Rattle.map_circuits.proofs.GrowingLaws.{extends-itself}
use Rattle.map_circuits.specs.Growing.{Extends}
use Rattle.aig_graph.specs.Graph.{Graph}
use Rattle.map_miters.specs.Ties.{HasLatches}
use Rattle.std.proofs.Common.{Bool, subst, sym}
use Rattle.map_miters.proofs.ties.add_constraints.Goals as goal

pub add_start-requires-clause-graph : goal.add_start-requires-clause-graph
add_start-requires-clause-graph c = c.requires.graph

pub add_start-requires-clause-askable : goal.add_start-requires-clause-askable
add_start-requires-clause-askable c = c.requires.askable

pub add_start-requires-clause-tied : goal.add_start-requires-clause-tied
add_start-requires-clause-tied c = c.requires.tied.0 c.if-tied.true

pub add_start-requires-clause-latches : goal.add_start-requires-clause-latches
add_start-requires-clause-latches c = subst (λ (tied : Bool). HasLatches c.args.first.now.aig c.args.second.now.aig tied c.args.gates.now) c.if-tied.true c.requires.latches

pub returns-clause-extends : goal.returns-clause-extends
returns-clause-extends c = elim c.if-tied.branch [
  | then-tied+in_ok-add_start+in_ok-push w ↦ subst (λ (h : Graph). Extends c.args.gates.now h) (sym w.gates-is) w.in_ok-add_start.ensures.extends
  | else-tied w ↦ subst (λ (h : Graph). Extends c.args.gates.now h) (sym w.gates-is) (extends-itself c.args.gates.now c.requires.graph)
]
