use Rattle.merging_rounds.proofs.LimitLaws.{runs-limits}
use Rattle.merging_rounds.proofs.laws.round_limits_law.Goals as goal

pub returns : goal.returns
returns c = λ merge bound choice read holding max_frames certify runs r now is within.
    runs-limits merge bound choice read holding max_frames certify runs r.circuit r.kept_free now is.after within
