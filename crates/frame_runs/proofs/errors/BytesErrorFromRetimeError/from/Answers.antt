use Rattle.std.proofs.Common.{refl}
use Rattle.frame_runs.proofs.errors.BytesErrorFromRetimeError.from.Goals as goal

pub returns : goal.returns
returns c = refl
