-- A reader by its phase.
use Rattle.std.proofs.Common.{ℕ, ◌≡◌, ◌⊎◌, inl, inr, IfErr, List, Result, Ok, Err, IsOk, refl, sym, subst}
use Rattle.file_words.specs.declared.fault.ReadError.{ReadError}
use Rattle.file_words.specs.Answering.{Fails, Gives}
use Rattle.aig_graph.specs.Circuits.{Netlist}
use Rattle.file_words.specs.declared.fault.ReadError.TheVariants.{NoMemory}
use Rattle.ascii_file.specs.Reading.{read_bytes, IsFaultOf}
use Rattle.ascii_file.proofs.FaultLaws.{fault_of_bytes}
use Rattle.ascii_file.specs.Pieces.{fed}
use Rattle.aag_text.specs.declared.reader.Phase.{Phase}
use Rattle.aag_text.specs.declared.reader.Phase.TheVariants.{Header, Items, Failed}
use Rattle.aag_text.specs.Standing.{HoldsOrFaults}
use Rattle.aag_text.specs.Readers.{PhaseReads}
use Rattle.aag_text.proofs.BeginningLaws.{none_ended}

is_ok : {Y : Type 0} (r : Result Y ReadError) (y : Y) → r ≡ Ok y → IsOk r
is_ok r y is = subst IsOk (sym is) refl

-- the bytes have no fault
pub reads_ok : (phase : Phase) (len : ℕ) (bytes : List ℕ) → PhaseReads phase len bytes → IsOk (fed bytes)
reads_ok (Header line) len bytes reads = is_ok (fed bytes) _ (none_ended bytes reads.0.one_line)
reads_ok (Items items) len bytes reads = is_ok (fed bytes) reads.0.state reads.0.leads
reads_ok (Failed fault) len bytes reads = absurd reads

-- what an answer says may be weakened
pub follows_more : {X Y : Type 0} (P Q : Type 0) (r : Result X ReadError) (read : Result Y ReadError) → (P → Q) → HoldsOrFaults P r read → HoldsOrFaults Q r read
follows_more P Q (Ok x) read more follows = more follows
follows_more P Q (Err e) read more follows = follows

-- ---- a whole file

fails_by : (bytes : List ℕ) (e : ReadError) → Fails NoMemory e (read_bytes bytes) → (e ≡ NoMemory) ⊎ IsFaultOf bytes e
fails_by bytes e (inl none) = inl none
fails_by bytes e (inr is) = inr (record { read = is; of_bytes = fault_of_bytes bytes e is })

-- an error of a reader's answer is want of memory or a fault of the bytes
pub gives_fault : {X : Type 0} (view : X → Netlist) (r : Result X ReadError) (bytes : List ℕ) → Gives NoMemory view r (read_bytes bytes) → IfErr r (λ e. (e ≡ NoMemory) ⊎ IsFaultOf bytes e)
gives_fault view (Ok x) bytes gives = tt
gives_fault view (Err e) bytes gives = fails_by bytes e gives
