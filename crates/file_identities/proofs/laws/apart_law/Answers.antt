use Rattle.file_identities.proofs.ClashLaws.{apart}
use Rattle.file_identities.proofs.laws.apart_law.Goals as goal

pub returns : goal.returns
returns c = apart
