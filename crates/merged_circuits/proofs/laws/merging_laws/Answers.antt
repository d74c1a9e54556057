use Rattle.aig_graph.proofs.KindLaws.{element}
use Rattle.merged_circuits.proofs.LineLaws.{one-reading}
use Rattle.merged_circuits.proofs.ValueLaws.{agree-always}
use Rattle.merged_circuits.proofs.MergingLaws.{merged_by-streams}
use Rattle.merged_circuits.proofs.ShownLaws.{shown-inductive}
use Rattle.merged_circuits.proofs.laws.merging_laws.Goals as goal

pub returns-clause-values : goal.returns-clause-values
returns-clause-values c = λ g held reads valid kept x f t j h. (let there = element g.latches j h in agree-always g held reads valid kept x f t j there.0 there.1)

pub returns-clause-streams : goal.returns-clause-streams
returns-clause-streams c = λ held reads before d graph netlist merged. merged_by-streams held reads before d graph netlist merged

pub returns-clause-shown : goal.returns-clause-shown
returns-clause-shown c = λ g held reads. shown-inductive g held reads

pub returns-clause-one_reading : goal.returns-clause-one_reading
returns-clause-one_reading c = λ g lines reads other one two. one-reading g lines reads other one two
