use Rattle.std.proofs.Common.{sym}
use Rattle.file_words.proofs.AnsweringLaws.{Gives-same}
use Rattle.binary_file.proofs.CircuitLaws.{ended}
use Rattle.binary_file.proofs.sections.Sections.finish.Goals as goal

pub returns-in-Symbols : goal.returns-in-Symbols
returns-in-Symbols c h raw is = Gives-same _ _ _ _ _ (ended c.args.self h raw c.args.end is (sym c.in-Symbols.ensures.here)) c.into_circuit.ensures
