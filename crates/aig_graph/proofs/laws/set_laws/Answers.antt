use Rattle.aig_graph.proofs.ClosedBorderLaws.{closed_border_law}
use Rattle.aig_graph.proofs.SetLaws.{passable_law, empty_set_laws, at_most_one}
use Rattle.aig_graph.proofs.laws.set_laws.Goals as goal

pub returns-clause-passable : goal.returns-clause-passable
returns-clause-passable c = λ g held v valid. passable_law g held v valid

pub returns-clause-empty : goal.returns-clause-empty
returns-clause-empty c = empty_set_laws

pub returns-clause-border : goal.returns-clause-border
returns-clause-border c = closed_border_law

pub returns-clause-one : goal.returns-clause-one
returns-clause-one c = at_most_one
