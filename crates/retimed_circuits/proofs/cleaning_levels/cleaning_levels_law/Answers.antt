use Rattle.retimed_circuits.proofs.CleaningLevelLaws.{cleans-levels}
use Rattle.retimed_circuits.proofs.ReplacedLevelLaws.{merged_latches-levels}
use Rattle.retimed_circuits.proofs.cleaning_levels.cleaning_levels_law.Goals as goal

pub returns-clause-cleaning : goal.returns-clause-cleaning
returns-clause-cleaning c = λ held before d kept graph netlist cleans. cleans-levels d held before kept cleans (record { graph = graph; netlist = netlist })

pub returns-clause-merging : goal.returns-clause-merging
returns-clause-merging c = λ held reads before d graph netlist merged. merged_latches-levels held reads before d graph netlist merged
