use Rattle.binary_file.proofs.DeltaLaws.{Spells}
use Rattle.binary_file.proofs.deltas.encode.push_delta.Given as goal

abbrev pub invariant-loop : goal.invariant-loop
invariant-loop g l = Spells l.fn.bytes.items l.bytes.items l.counter l.rest l.number
