use Rattle.cleaned_circuits.proofs.PassLaws.{cleans-streams}
use Rattle.cleaned_circuits.proofs.CleanedLaws.{cleans-one}
use Rattle.cleaned_circuits.proofs.HeldLaws.{held_after-one}
use Rattle.cleaned_circuits.proofs.laws.cleaning_laws.Goals as goal

pub returns-clause-streams : goal.returns-clause-streams
returns-clause-streams c = λ held before d kept graph netlist cleans. cleans-streams d held before kept cleans (record { graph = graph; netlist = netlist })

pub returns-clause-one : goal.returns-clause-one
returns-clause-one c = λ held before d e first second one other. cleans-one d held before first one e second other

pub returns-clause-held : goal.returns-clause-held
returns-clause-held c = λ held before d now other first second. held_after-one d now held before first other second
