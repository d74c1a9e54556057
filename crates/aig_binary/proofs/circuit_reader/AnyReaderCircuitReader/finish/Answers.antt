use Rattle.aig_binary.proofs.FaultLaws.{finish_error}
use Rattle.aig_binary.proofs.circuit_reader.AnyReaderCircuitReader.finish.Goals as goal

pub returns-clause-err : goal.returns-clause-err
returns-clause-err c = λ bytes held. finish_error c.finish.result bytes (c.finish.ensures.gives bytes held)
