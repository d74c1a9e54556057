use Rattle.circuit_files.proofs.FileLaws.{whole_text}
use Rattle.fretime.proofs.answers.write_file.Goals as goal

pub returns-in-Ok-clause-given : goal.returns-in-Ok-clause-given
returns-in-Ok-clause-given g c = whole_text _ _ _ _ _ _ _ _ _ c.file_at-writer.ensures.path c.file_at-writer.ensures.given c.close.ensures c.in-Ok.ensures.ok.bytes
