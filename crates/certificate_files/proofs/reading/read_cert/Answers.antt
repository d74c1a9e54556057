use Rattle.file_words.proofs.AnsweringLaws.{Gives-fault}
use Rattle.certificate_files.proofs.reading.read_cert.Goals as goal

pub returns-clause-err : goal.returns-clause-err
returns-clause-err c = Gives-fault _ _ _ c.read.ensures
