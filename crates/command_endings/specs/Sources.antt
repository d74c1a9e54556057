-- What is read of a file or of standard input. What a file has isn't known to a clause.
use Rattle.std.specs.Prelude.{◌≡◌, true, false, List, Ok}
use Rattle.counted_io.specs.Input.{Input}
use Rattle.aig_graph.specs.Circuits.{Netlist}
use Rattle.aig_graph.specs.Graph.{Graph}
use Rattle.aig_binary.specs.Ending.{Spells}
use Rattle.aig_binary.specs.declared.reading.SpeltCircuit.{SpeltCircuit}
use Rattle.lane_sim.specs.declared.stimulus.InputSequence.{InputSequence}
use Rattle.certificate_files.specs.declared.file.CertFile.{CertFile}
use Rattle.witnesses.specs.declared.witness.Witness.{Witness}
use Rattle.counted_io.specs.Streams.{is_stdin}
use Rattle.counted_io.specs.declared.source.Source.{Source}
use Rattle.circuit_files.specs.Reading.{AreCertificatesOf, IsReadingOfStdin, IsStimulusOf, IsWitnessOf}

-- of standard input this is read; a file leaves standard input as it was
pub record IsReadAt (source : Source) (old new : Input) (IsRead : Type 0) : Type 0 where
  pub stdin : is_stdin source ≡ true → IsRead
  pub file : is_stdin source ≡ false → new ≡ old

-- the circuit of the bytes that are left
abbrev pub IsCircuitAt : Source → Input → Input → SpeltCircuit → Type 0
IsCircuitAt source old new spelt = IsReadAt source old new (Spells old spelt)

-- the stimulus of them, with the widths of the circuit
abbrev pub IsStimulusAt : Source → Graph → Input → Input → List InputSequence → Type 0
IsStimulusAt source g old new stimulus = IsReadAt source old new (IsReadingOfStdin old new (IsStimulusOf g) (Ok stimulus))

-- the certificates of them
abbrev pub AreCertificatesAt : Source → Input → Input → CertFile → Type 0
AreCertificatesAt source old new file = IsReadAt source old new (IsReadingOfStdin old new AreCertificatesOf (Ok file))

-- the witness of them, for the circuit
abbrev pub IsWitnessAt : Source → Netlist → Input → Input → Witness → Type 0
IsWitnessAt source c old new witness = IsReadAt source old new (IsReadingOfStdin old new (IsWitnessOf c) (Ok witness))
