-- What the bytes of a file are read as, and the failure if they can't be.
use Rattle.std.specs.Prelude.{ℕ, ◌≡◌, ◌⊎◌, List, Result, Ok, Err, codes}
use Rattle.std.specs.Borrow.{Bor}
use Rattle.aig_graph.specs.Graph.{Graph, free_latches}
use Rattle.counted_io.specs.Input.{Input, ReadsAll}
use Rattle.counted_io.specs.Output.{one_more}
use Rattle.file_words.specs.declared.fault.ReadError.{ReadError}
use Rattle.lane_sim.specs.Stimuli.{read_text}
use Rattle.lane_sim.specs.declared.fault.StimError.{StimError}
use Rattle.lane_sim.specs.declared.stimulus.InputSequence.{InputSequence}
use Rattle.aig_binary.specs.Ending.{IsReadError}
use Rattle.certificate_files.specs.Files.{read_text as certificates_of}
use Rattle.certificate_files.specs.declared.fault.CertError.{CertError}
use Rattle.certificate_files.specs.declared.file.CertFile.{CertFile}
use Rattle.aig_graph.specs.Circuits.{Netlist}
use Rattle.witnesses.specs.Circuits.{widths_of}
use Rattle.witnesses.specs.Reading.{read_text as witness_of}
use Rattle.witnesses.specs.declared.fault.WitnessError.{WitnessError}
use Rattle.witnesses.specs.declared.witness.Witness.{Witness}
use Rattle.circuit_files.specs.Outcomes.{failure_of_certificates, failure_of_reading, failure_of_stimulus, failure_of_witness}
use Rattle.circuit_files.specs.declared.outcome.Failure.{Failure}
use Rattle.circuit_files.specs.declared.outcome.Failure.TheVariants as fails

-- the failure is one of these, of what messages name stdin
abbrev pub IsOfStdin : (Bor (List ℕ) → Failure → Type 0) → Failure → Type 0
IsOfStdin IsFailure failure = (name : Bor (List ℕ)) × (name.now ≡ codes "stdin") × IsFailure name failure

-- the failure of an error that reading the circuit can have
abbrev pub IsCircuitFailure : Input → Input → Bor (List ℕ) → Failure → Type 0
IsCircuitFailure old new path failure = (error : ReadError) × IsReadError old new error × (failure ≡ failure_of_reading error path)

-- a read failed, and the file is named, or there was no room for the bytes
abbrev pub IsBytesFailure : Input → Input → Bor (List ℕ) → Failure → Type 0
IsBytesFailure old new path failure = ((failure ≡ fails.Device path) × (new.failures ≡ one_more old.failures)) ⊎ ((failure ≡ fails.Memory) × (new.failures ≡ old.failures))

-- the stimulus of the bytes by a circuit's widths, or their fault's failure; memory may run out
abbrev pub IsStimulusOf : Graph → List ℕ → Bor (List ℕ) → Result (List InputSequence) Failure → Type 0
IsStimulusOf g bytes path (Ok stimulus) = read_text g.inputs (free_latches g) bytes ≡ Ok stimulus
IsStimulusOf g bytes path (Err fails.Memory) = Unit {0}
IsStimulusOf g bytes path (Err failure) = (fault : StimError) × (read_text g.inputs (free_latches g) bytes ≡ Err fault) × (failure ≡ failure_of_stimulus fault path)

-- the certificates of the bytes, or their fault's failure; memory may run out
abbrev pub AreCertificatesOf : List ℕ → Bor (List ℕ) → Result CertFile Failure → Type 0
AreCertificatesOf bytes path (Ok file) = certificates_of bytes ≡ Ok file
AreCertificatesOf bytes path (Err fails.Memory) = Unit {0}
AreCertificatesOf bytes path (Err failure) = (fault : CertError) × (certificates_of bytes ≡ Err fault) × (failure ≡ failure_of_certificates fault path)

-- the bytes of standard input are read as this, by its name, or reading them failed
abbrev pub IsReadingOfStdin : {T : Type 0} → Input → Input → (List ℕ → Bor (List ℕ) → Result T Failure → Type 0) → Result T Failure → Type 0
IsReadingOfStdin old new IsReading result =
    ((bytes : List ℕ) × ReadsAll old new bytes × ((name : Bor (List ℕ)) × (name.now ≡ codes "stdin") × IsReading bytes name result))
    ⊎ ((failure : Failure) × (result ≡ Err failure) × IsOfStdin (IsBytesFailure old new) failure)

-- the witness of the bytes for a circuit, or their fault's failure; memory may run out
abbrev pub IsWitnessOf : Netlist → List ℕ → Bor (List ℕ) → Result Witness Failure → Type 0
IsWitnessOf c bytes path (Ok witness) = witness_of (widths_of c) bytes ≡ Ok witness
IsWitnessOf c bytes path (Err fails.Memory) = Unit {0}
IsWitnessOf c bytes path (Err failure) = (fault : WitnessError) × (witness_of (widths_of c) bytes ≡ Err fault) × (failure ≡ failure_of_witness fault path)
