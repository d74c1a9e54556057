use Rattle.circuit_files.proofs.FileLaws.{holds_text}
use Rattle.circuit_files.proofs.laws.given_file_law.Goals as goal

pub returns : goal.returns
returns g c path text = holds_text _ _ _ path text
