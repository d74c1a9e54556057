-- What becomes of a reader's bytes: the retimed circuit of those bytes, whose text is written, or
-- an error.
use Rattle.std.specs.Prelude.{ℕ, ◌≡◌, ⊤, Bool, List, Some, Result, Ok, Err, IfOk, IsErrOf, unwrap_or}
use Rattle.counted_io.specs.Input.{Input}
use Rattle.counted_io.specs.Output.{Output, WritesAll, WritesPart}
use Rattle.counted_io.specs.declared.writing.WriteError.{WriteError}
use Rattle.file_words.specs.declared.fault.ReadError.{ReadError}
use Rattle.ascii_file.specs.Laws.{IsWithinLimits}
use Rattle.aig_binary.specs.Spellings.{read_any, text_in}
use Rattle.aig_binary.specs.declared.reading.SpeltCircuit.{SpeltCircuit}
use Rattle.aig_binary.specs.Ending.{ReadsToEnd, Spells, IsReadError}
use Rattle.retimed_circuits.specs.RetimingLevels.{KeepsLevels}
use Rattle.frame_runs.specs.declared.errors.BytesError.{BytesError}
use Rattle.frame_runs.specs.declared.errors.BytesError.TheVariants.{Read, Retime, Write}
use Rattle.frame_runs.specs.declared.errors.RetimeError.TheVariants.{Misread, NoMemory, NoSuchLatch, NoSuchName, NotShown}
use Rattle.frame_runs.specs.declared.options.Options.{Options}
use Rattle.frame_runs.specs.Bounds.{bound_in}
use Rattle.frame_runs.specs.Named.{AreLatchesBy, IsFirstMissingBy, IsFirstNoLatchBy, NoneMissingBy}
use Rattle.merging_rounds.specs.Following.{AreRoundsOf}
use Rattle.merging_rounds.specs.Laws.{AreSameRounds}
use Rattle.merging_rounds.specs.Rounds.{merged_in}
use Rattle.merging_rounds.specs.declared.rounds.Rounds.{Rounds}

-- the text of a retimed circuit in the chosen spelling, else in that of the circuit that was read
abbrev pub text_for : Options → SpeltCircuit → Rounds → List ℕ
text_for options spelt r = text_in (unwrap_or options.spelling spelt.spelling) r.circuit

-- the circuit that was read has latches of all names and positions, and this is it retimed in
-- rounds
pub record IsAnswer (options : Options) (spelt : SpeltCircuit) (r : Rounds) : Type 0 where
  pub latches : AreLatchesBy options spelt.circuit
  pub names : NoneMissingBy options spelt.circuit
  pub now : List ℕ
  pub rounds : AreRoundsOf options spelt.circuit r now

-- The bytes that were left are those of a circuit. r has no path longer than the options' bound for
-- it, but for those that it has.
pub record KeepsLevelsOf (options : Options) (input : Input) (r : Rounds) : Type 0 where
  pub spelt : SpeltCircuit
  pub spells : Spells input spelt
  pub levels : KeepsLevels (bound_in options spelt.circuit) spelt.circuit r.circuit

-- the text of a retimed circuit is read as that circuit
abbrev pub ReadsBack : Options → SpeltCircuit → Rounds → Type 0
ReadsBack options spelt r = read_any (text_for options spelt r) ≡ Ok r.circuit

-- The text of the answer was written whole, and nothing else. If the circuit was within the limits
-- of a header, the text is read as the answer.
pub record IsWritten (options : Options) (spelt : SpeltCircuit) (old new : Output) (r : Rounds) : Type 0 where
  pub answer : IsAnswer options spelt r
  pub writes : WritesAll old new (text_for options spelt r)
  pub reads_back : IsWithinLimits spelt.circuit → ReadsBack options spelt r

-- a write failed after a beginning of the answer
pub record StopsWriting (options : Options) (spelt : SpeltCircuit) (old new : Output) : Type 0 where
  pub rounds : Rounds
  pub answer : IsAnswer options spelt rounds
  pub writes : WritesPart old new (text_for options spelt rounds)

-- why the circuit that was read wasn't retimed and written; nothing is written before the answer is
-- whole
abbrev pub IsStop : Options → SpeltCircuit → Output → Output → BytesError → Type 0
IsStop options spelt old new (Read e) = ⊥
IsStop options spelt old new (Retime NoMemory) = new ≡ old
IsStop options spelt old new (Retime (NoSuchName place)) = (new ≡ old) × IsFirstMissingBy options spelt.circuit place
IsStop options spelt old new (Retime (NoSuchLatch place)) = (new ≡ old) × IsFirstNoLatchBy options spelt.circuit place
IsStop options spelt old new (Retime (Misread latch)) = new ≡ old
IsStop options spelt old new (Retime (NotShown latch)) = new ≡ old
IsStop options spelt old new (Write e) = StopsWriting options spelt old new

-- The bytes that were left are those of a circuit in a spelling, and its answer was written. The
-- text is read as that answer.
pub record IsAnswered (input : Input) (old new : Output) (options : Options) (r : Rounds) : Type 0 where
  pub spelt : SpeltCircuit
  pub read : Spells input spelt
  pub written : IsWritten options spelt old new r
  pub reads_back : (left : List ℕ) → input.bytes ≡ Some left → ReadsBack options spelt r

-- the options with certificates wanted, or not wanted
abbrev pub certifying : Options → Bool → Options
certifying options certify = record { spelling = options.spelling; max_frames = options.max_frames; choice = options.choice; certify = certify; keep = options.keep; keep_latches = options.keep_latches; merge = options.merge; classes = options.classes; bound = options.bound }

-- Of these bytes by these options, with certificates or without, there is one answer but for the
-- routes of certificates. There is one text of it. If latches were merged, there is one for each
-- list of merged latches of each round.
abbrev pub IsOneAnswer : List ℕ → Options → Type 0
IsOneAnswer bytes options = (certify : Bool) (input other : Input) (old new before after : Output) (r s : Rounds) → input.bytes ≡ Some bytes → other.bytes ≡ Some bytes
    → (p : IsAnswered input old new options r) (q : IsAnswered other before after (certifying options certify) s) → merged_in r ≡ merged_in s
    → AreSameRounds options.certify certify r s × (text_for options p.spelt r ≡ text_for options q.spelt s)

-- the bytes were read to their end, and are those of a circuit in a spelling, but there is no whole
-- answer
pub record EndsWithoutAnswer (options : Options) (old new : Input) (before after : Output) (e : BytesError) : Type 0 where
  pub read : ReadsToEnd old new
  pub spelt : SpeltCircuit
  pub spells : Spells old spelt
  pub stop : IsStop options spelt before after e

-- why there is no answer
abbrev pub IsBytesError : Options → Input → Input → Output → Output → BytesError → Type 0
IsBytesError options old new before after (Read e) = IsReadError old new e × (after ≡ before)
IsBytesError options old new before after (Retime e) = EndsWithoutAnswer options old new before after (Retime e)
IsBytesError options old new before after (Write e) = EndsWithoutAnswer options old new before after (Write e)

-- P, if the bytes were read as a circuit's: after an answer, and after an error that came later
abbrev pub AfterReading : Result Rounds BytesError → Type 0 → Type 0
AfterReading (Ok r) P = P
AfterReading (Err (Read e)) P = ⊤
AfterReading (Err (Retime e)) P = P
AfterReading (Err (Write e)) P = P

-- P, if the run ended before its first write
abbrev pub BeforeWriting : Result Rounds BytesError → Type 0 → Type 0
BeforeWriting (Ok r) P = ⊤
BeforeWriting (Err (Read e)) P = P
BeforeWriting (Err (Retime e)) P = P
BeforeWriting (Err (Write e)) P = ⊤

-- the bytes are those of a circuit in a spelling
pub record AreOfCircuit (input : Input) : Type 0 where
  pub spelt : SpeltCircuit
  pub spells : Spells input spelt

-- the bytes are those of a circuit of whose latches none has the name at this place, the first such
-- name
pub record IsMissingIn (options : Options) (input : Input) (place : ℕ) : Type 0 where
  pub spelt : SpeltCircuit
  pub spells : Spells input spelt
  pub missing : IsFirstMissingBy options spelt.circuit place

-- the bytes are those of a circuit that has no latch at the position at this place, the first such
-- position
pub record IsNoLatchIn (options : Options) (input : Input) (place : ℕ) : Type 0 where
  pub spelt : SpeltCircuit
  pub spells : Spells input spelt
  pub no_latch : IsFirstNoLatchBy options spelt.circuit place

-- the bytes are those of a circuit, and a beginning of the text of its answer was written
pub record IsCutOff (options : Options) (input : Input) (old new : Output) : Type 0 where
  pub spelt : SpeltCircuit
  pub spells : Spells input spelt
  pub stops : StopsWriting options spelt old new

-- what retiming leaves of a reader and a writer: the clauses of `retime_bytes`, of whatever run
pub record RetimesBytes (options : Options) (old new : Input) (before after : Output) (result : Result Rounds BytesError) : Type 0 where
  pub read : AfterReading result (ReadsToEnd old new)
  pub circuit : AfterReading result (AreOfCircuit old)
  pub answer : IfOk result (IsAnswered old before after options)
  pub levels : IfOk result (KeepsLevelsOf options old)
  pub unread : (e : ReadError) → IsErrOf result (Read e) → IsReadError old new e
  pub missing : (place : ℕ) → IsErrOf result (Retime (NoSuchName place)) → IsMissingIn options old place
  pub no_latch : (place : ℕ) → IsErrOf result (Retime (NoSuchLatch place)) → IsNoLatchIn options old place
  pub unwritten : BeforeWriting result (after ≡ before)
  pub cut_off : (e : WriteError) → IsErrOf result (Write e) → IsCutOff options old before after
