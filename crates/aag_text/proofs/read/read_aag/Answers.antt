use Rattle.aag_text.proofs.ReaderLaws.{gives_fault}
use Rattle.aag_text.proofs.read.read_aag.Goals as goal

pub returns-clause-err : goal.returns-clause-err
returns-clause-err c = gives_fault (λ circuit. circuit) c.read.result c.args.bytes.now c.read.ensures
