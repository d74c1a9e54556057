use Rattle.std.proofs.Common.{ℕ, List}
use Rattle.counted_io.proofs.InputLaws.{ReadsFirst}
use Rattle.aig_binary.proofs.reading.read_circuit.Given as goal

abbrev pub invariant-loop : goal.invariant-loop
invariant-loop g l = (read : List ℕ) × ReadsFirst (g.R.CountedRead.input l.fn.reader) (g.R.CountedRead.input l.reader) read × g.C.CircuitReader.holds l.circuits read
