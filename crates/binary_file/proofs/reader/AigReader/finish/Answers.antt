use Rattle.binary_file.proofs.reader.AigReader.finish.Goals as goal

pub returns-in-Err-clause-circuit : goal.returns-in-Err-clause-circuit
returns-in-Err-clause-circuit c bytes holds = (rw c.replace-stage.ensures.value at c.in-Err.ensures.circuit) bytes holds.stage holds.count
