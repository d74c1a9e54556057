use Rattle.std.proofs.Common.{◌++◌}
use Rattle.aig_binary.proofs.FaultLaws.{feed_error}
use Rattle.aig_binary.proofs.circuit_reader.AnyReaderCircuitReader.feed.Goals as goal

pub returns-clause-err : goal.returns-clause-err
returns-clause-err c = λ bytes held. feed_error c.feed.result (bytes ++ c.args.piece.now) (c.feed.ensures.fed bytes held)
