use Rattle.file_identities.proofs.ListLaws.{list-apart}
use Rattle.file_identities.proofs.laws.list_apart_law.Goals as goal

pub returns : goal.returns
returns c = list-apart
