-- What holds of reading, and of deltas of at most five bytes.
use Rattle.std.specs.Prelude.{ℕ, ◌≡◌, List, [], ◌++◌, Ok, Err, ◌≤◌, length, IsTrue}
use Rattle.aig_graph.specs.Circuits.{Netlist}
use Rattle.file_words.specs.declared.fault.ReadError.{ReadError}
use Rattle.file_words.specs.Answering.{◌>>=◌}
use Rattle.ascii_file.specs.declared.header.Header.{Header}
use Rattle.ascii_file.specs.Raw.{Raw}
use Rattle.ascii_file.specs.Files.{IsCountedBy}
use Rattle.binary_file.specs.Files.{IsBinaryFile}
use Rattle.binary_file.specs.Reading.{AtHeader, feed, circuit_of, read_binary, IsBinaryFaultOf}
use Rattle.binary_file.specs.Deltas.{delta_value, is_delta, delta_of}

-- reading gives a circuit exactly if the bytes are the file of a raw circuit, and then its own;
-- else a fault of the bytes
pub record BinaryReadingLaw (bytes : List ℕ) : Type 0 where
  pub file : (h : Header) (raw : Raw) → IsBinaryFile bytes h raw → read_binary bytes ≡ Ok (circuit_of h raw)
  pub read : (c : Netlist) → read_binary bytes ≡ Ok c → (h : Header) × (raw : Raw) × IsBinaryFile bytes h raw × (c ≡ circuit_of h raw)
  pub one : (h h' : Header) (raw raw' : Raw) → IsBinaryFile bytes h raw → IsBinaryFile bytes h' raw' → (h ≡ h') × (raw ≡ raw')
  pub fault : (e : ReadError) → read_binary bytes ≡ Err e → IsBinaryFaultOf bytes e

-- feeding joined bytes is feeding one after the other; a fault of what was fed is the whole's
pub record BinaryPiecesLaw (bytes more : List ℕ) : Type 0 where
  pub joined : feed (AtHeader []) (bytes ++ more) ≡ (feed (AtHeader []) bytes >>= λ state. feed state more)
  pub stays : (e : ReadError) → feed (AtHeader []) bytes ≡ Err e → read_binary (bytes ++ more) ≡ Err e

-- a file has as many items of each section as its header says; inputs aren't listed
abbrev pub CountsLaw : List ℕ → Type 0
CountsLaw bytes = (h : Header) (raw : Raw) → IsBinaryFile bytes h raw → IsCountedBy (record h { inputs = 0 }) raw

-- delta_of n is a delta that spells n, and none is shorter
pub record DeltaLaws (n : ℕ) : Type 0 where
  pub value : delta_value (delta_of n) ≡ n
  pub form : IsTrue (is_delta (delta_of n))
  pub shortest : (bytes : List ℕ) → IsTrue (is_delta bytes) → delta_value bytes ≡ n → length (delta_of n) ≤ length bytes

-- if one delta ends here, none of another length does
abbrev pub EndsOnce : List ℕ → List ℕ → List ℕ → List ℕ → Type 0
EndsOnce first second rest other =
    IsTrue (is_delta first) → IsTrue (is_delta second) → first ++ rest ≡ second ++ other → first ≡ second
