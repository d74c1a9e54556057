-- Reading piece by piece to the end, or until something fails.
use Rattle.std.proofs.Common.{ℕ, ◌≡◌, ◌++◌, inl, inr, List, Option, Some, None, Ok, Err, take, refl, ap, sym, ◌∙◌}
use Rattle.std.specs.Io.KnownBytes.{Consumes, IsAtEnd}
use Rattle.std.proofs.lemmas.Option.{none-some, same_Some}
use Rattle.counted_io.specs.Input.{Input, ReadsAll}
use Rattle.counted_io.specs.Output.{one_more}
use Rattle.counted_io.proofs.InputLaws.{ReadsFirst, first-all}
use Rattle.aig_graph.specs.Circuits.{Netlist}
use Rattle.file_words.specs.declared.fault.ReadError.{ReadError}
use Rattle.file_words.specs.declared.fault.ReadError.TheVariants.{NoMemory, BadHeader}
use Rattle.file_words.specs.declared.spelling.Spelling.{Spelling}
use Rattle.aig_binary.specs.Spellings.{spelling_of, read_any, read_in_spelling}
use Rattle.aig_binary.specs.declared.reading.SpeltCircuit.{SpeltCircuit}
use Rattle.aig_binary.specs.Pieces.{FailsFrom, IsFinishError}
use Rattle.aig_binary.specs.Ending.{ReadsToEnd, Spells, IsFaultOfBytes, StopsReading, IsReadError}

-- what is left of known bytes
left-after : (s t : Option (List ℕ)) (read left : List ℕ) → Consumes s t read → s ≡ Some left → (rest : List ℕ) × (t ≡ Some rest) × (left ≡ read ++ rest)
left-after None t read left p e = absurd (none-some left e)
left-after (Some xs) None read left p e = absurd p
left-after (Some xs) (Some ys) read left p e = (ys, refl, sym (same_Some xs left e) ∙ p)

-- what was read in part, and then to its end, was read to its end
pub then-to-end : (s t u : Input) (read : List ℕ) → ReadsFirst s t read → ReadsToEnd t u → ReadsToEnd s u
then-to-end s t u read before rest = record {
  bytes = λ left e. let after = left-after s.bytes t.bytes read left before.bytes e in rest.bytes after.0 after.1;
  failures = rest.failures ∙ before.failures;
}

-- a fault of the bytes so far, which are read to their end
pub fault-of-bytes : (s t u : Input) (read : List ℕ) (e : ReadError) → ReadsFirst s t read → FailsFrom read e → ReadsToEnd t u → IsFaultOfBytes s u e
fault-of-bytes s t u read e before fails rest = record {
  read = then-to-end s t u read before rest;
  fault = record { bytes = λ left h. let after = left-after s.bytes t.bytes read left before.bytes h in ap read_any after.2 ∙ fails.fault after.0 };
  of_bytes = fails.of_bytes;
}

-- if all bytes that were left were read, the reader was read to its end
pub all-to-end : (s u : Input) (read : List ℕ) → ReadsAll s u read → ReadsToEnd s u
all-to-end s u read all = record { bytes = λ left e. (all.bytes left e).1; failures = all.failures }

-- an error at the end of all bytes is memory's, or the fault of all bytes that were left
pub finish-error : (s u : Input) (read : List ℕ) (e : ReadError) → ReadsAll s u read → IsFinishError read e → IsReadError s u e
finish-error s u read e all (inl none) = inr (inl (record { error = none; failures = all.failures }))
finish-error s u read e all (inr fails) = inr (inr (record {
  read = all-to-end s u read all;
  fault = record { bytes = λ left h. ap read_any (sym (all.bytes left h).0) ∙ fails.fault };
  of_bytes = fails.of_bytes;
}))

-- the circuit of all bytes that were read, with their spelling, is what the bytes that were left
-- spell
pub spelt-all : (s u : Input) (read : List ℕ) (spelt : SpeltCircuit) → ReadsAll s u read → read_any read ≡ Ok spelt.circuit → spelling_of read ≡ Some spelt.spelling → Spells s spelt
spelt-all s u read spelt all circuit spelling = record {
  circuit = record { bytes = λ left h. ap read_any (sym (all.bytes left h).0) ∙ circuit };
  spelling = λ left h. ap spelling_of (sym (all.bytes left h).0) ∙ spelling;
}

-- what stops the reading later stops it
pub stops-later : (s t u : Input) (read : List ℕ) (e : ReadError) → ReadsFirst s t read → StopsReading t u e → StopsReading s u e
stops-later s t u read e before (inl failed) = inl (record { error = failed.error; failures = failed.failures ∙ ap one_more before.failures })
stops-later s t u read e before (inr refused) = inr (record { error = refused.error; failures = refused.failures ∙ before.failures })

-- what stops the reading is a reason why there is no circuit
pub stops-error : (s u : Input) (e : ReadError) → StopsReading s u e → IsReadError s u e
stops-error s u e (inl failed) = inl failed
stops-error s u e (inr refused) = inr (inl refused)

-- memory ran out, and no read failed
pub refused : (s t : Input) (read : List ℕ) (e : ReadError) → ReadsFirst s t read → e ≡ NoMemory → IsReadError s t e
refused s t read e before none = inr (inl (record { error = none; failures = before.failures }))

-- bytes of neither spelling are no circuit
pub no-circuit : (bytes : List ℕ) (c : Netlist) → spelling_of bytes ≡ None → read_any bytes ≡ Ok c → ⊥
unfolding read_any
no-circuit bytes c none read = let clash : Err (BadHeader 0) ≡ Ok c = sym (ap (λ (spelling : Option Spelling). read_in_spelling spelling bytes) none) ∙ read in absurd (cc)

-- the last read gave nothing
pub ended : (s t u : Input) (read piece : List ℕ) (n : ℕ) → ReadsFirst s t read → Consumes t.bytes u.bytes (take n piece) → n ≡ 0 → (n ≡ 0 → IsAtEnd u.bytes) → u.failures ≡ t.failures → ReadsAll s u read
ended s t u read piece n before more nothing end same = first-all s t u read (take n piece) before more (ap (λ (m : ℕ). take m piece) nothing) (end nothing) same
