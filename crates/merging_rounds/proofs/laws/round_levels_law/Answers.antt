use Rattle.merging_rounds.proofs.RoundLaws.{runs-levels}
use Rattle.merging_rounds.proofs.laws.round_levels_law.Goals as goal

pub returns : goal.returns
returns c = λ merge bound choice read holding max_frames certify runs r now graph netlist is.
    runs-levels merge bound choice read holding max_frames certify (record { graph = graph; netlist = netlist }) runs r.circuit r.kept_free now is.after
