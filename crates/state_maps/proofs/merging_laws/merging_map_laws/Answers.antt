use Rattle.state_maps.proofs.MergedRunMapLaws.{merged-retiming_maps}
use Rattle.state_maps.proofs.MergedStepLaws.{merging-maps, has-merging_map}
use Rattle.state_maps.proofs.merging_laws.merging_map_laws.Goals as goal

pub returns-clause-merging : goal.returns-clause-merging
returns-clause-merging c = λ held reads before d. merging-maps held reads before d

pub returns-clause-has_map : goal.returns-clause-has_map
returns-clause-has_map c = λ held reads before d. has-merging_map held reads before d

pub returns-clause-retiming : goal.returns-clause-retiming
returns-clause-retiming c = merged-retiming_maps
