-- Why a circuit that was read isn't retimed and written.
use Rattle.std.proofs.Common.{ℕ, ◌≡◌, Result, Ok, Err, refl, sym, subst}
use Rattle.std.specs.Result.{IfErr, IfOk, IsErrAnd, OnOk}
use Rattle.counted_io.specs.Input.{Input}
use Rattle.counted_io.specs.Output.{Output}
use Rattle.merging_rounds.specs.declared.rounds.Rounds.{Rounds}
use Rattle.aig_binary.specs.declared.reading.SpeltCircuit.{SpeltCircuit}
use Rattle.aig_binary.specs.Ending.{ReadsToEnd, Spells}
use Rattle.frame_runs.specs.declared.errors.BytesError.{BytesError}
use Rattle.frame_runs.specs.declared.errors.BytesError.TheVariants.{Read, Retime, Write}
use Rattle.frame_runs.specs.declared.errors.RetimeError.{RetimeError}
use Rattle.frame_runs.specs.declared.errors.RetimeError.TheVariants.{Misread, NoMemory, NoSuchLatch, NoSuchName, NotShown}
use Rattle.frame_runs.specs.declared.options.Options.{Options}
use Rattle.frames.specs.Answering.{AfterReading, AreOfCircuit, BeforeWriting, IsAnswered, IsBytesError, IsStop, KeepsLevelsOf, RetimesBytes}
use Rattle.frame_runs.specs.Named.{IsFirstMissingBy, IsFirstNoLatchBy}

-- what is so of an error is so of the result that has it
pub at-error : {T E : Type 0} (r : Result T E) (e : E) (P : E → Type 0) → IsErrAnd r (λ x. x ≡ e) → P e → IfErr r P
at-error (Ok x) e P h p = tt
at-error (Err x) e P h p = subst P (sym h) p

-- nothing is written if the circuit isn't retimed
pub stops-retiming : (options : Options) (spelt : SpeltCircuit) (out : Output) (e : RetimeError)
    → ((place : ℕ) → e ≡ NoSuchName place → IsFirstMissingBy options spelt.circuit place) → ((place : ℕ) → e ≡ NoSuchLatch place → IsFirstNoLatchBy options spelt.circuit place)
    → IsStop options spelt out out (Retime e)
stops-retiming options spelt out NoMemory missing no_latch = refl
stops-retiming options spelt out (NoSuchName place) missing no_latch = (refl, missing place refl)
stops-retiming options spelt out (NoSuchLatch place) missing no_latch = (refl, no_latch place refl)
stops-retiming options spelt out (Misread latch) missing no_latch = refl
stops-retiming options spelt out (NotShown latch) missing no_latch = refl

-- what stops after the reading is why there is no answer
pub stops-answering : (options : Options) (old new : Input) (before after : Output) (spelt : SpeltCircuit) (e : BytesError)
    → ReadsToEnd old new → Spells old spelt → IsStop options spelt before after e → IsBytesError options old new before after e
stops-answering options old new before after spelt (Read e) read spells stop = absurd stop
stops-answering options old new before after spelt (Retime e) read spells stop = record { read = read; spelt = spelt; spells = spells; stop = stop }
stops-answering options old new before after spelt (Write e) read spells stop = record { read = read; spelt = spelt; spells = spells; stop = stop }

-- what is so of every error is so of the one that a result has
pub of_error : (r : Result Rounds BytesError) (e : BytesError) (P : BytesError → Type 0) → IfErr r P → r ≡ Err e → P e
of_error r e P all is = subst (λ (s : Result Rounds BytesError). IfErr s P) is all

-- one statement of all errors, as a clause for each fact
module _ (options : Options) (old new : Input) (before after : Output) where
  read-of : (r : Result Rounds BytesError) → OnOk r (ReadsToEnd old new) → IfErr r (IsBytesError options old new before after) → AfterReading r (ReadsToEnd old new)
  read-of (Ok r) read why = read
  read-of (Err (Read e)) read why = tt
  read-of (Err (Retime e)) read why = why.read
  read-of (Err (Write e)) read why = why.read

  circuit-of : (r : Result Rounds BytesError) → IfOk r (IsAnswered old before after options) → IfErr r (IsBytesError options old new before after) → AfterReading r (AreOfCircuit old)
  circuit-of (Ok r) answer why = record { spelt = answer.spelt; spells = answer.read }
  circuit-of (Err (Read e)) answer why = tt
  circuit-of (Err (Retime e)) answer why = record { spelt = why.spelt; spells = why.spells }
  circuit-of (Err (Write e)) answer why = record { spelt = why.spelt; spells = why.spells }

  unwritten-of : (r : Result Rounds BytesError) → IfErr r (IsBytesError options old new before after) → BeforeWriting r (after ≡ before)
  unwritten-of (Ok r) why = tt
  unwritten-of (Err (Read e)) why = why.1
  unwritten-of (Err (Retime NoMemory)) why = why.stop
  unwritten-of (Err (Retime (NoSuchName place))) why = why.stop.0
  unwritten-of (Err (Retime (NoSuchLatch place))) why = why.stop.0
  unwritten-of (Err (Retime (Misread latch))) why = why.stop
  unwritten-of (Err (Retime (NotShown latch))) why = why.stop
  unwritten-of (Err (Write e)) why = tt

  -- what an answer and an error mean gives each clause of what retiming bytes ensures
  pub facts_of : (r : Result Rounds BytesError) → OnOk r (ReadsToEnd old new) → IfOk r (IsAnswered old before after options)
      → IfOk r (KeepsLevelsOf options old) → IfErr r (IsBytesError options old new before after) → RetimesBytes options old new before after r
  facts_of r read answer levels why = record {
    read = read-of r read why;
    circuit = circuit-of r answer why;
    answer = answer;
    levels = levels;
    unread = λ e is. (of_error r (Read e) (IsBytesError options old new before after) why is).0;
    missing = λ place is.
        let at = of_error r (Retime (NoSuchName place)) (IsBytesError options old new before after) why is in
        record { spelt = at.spelt; spells = at.spells; missing = at.stop.1 };
    no_latch = λ place is.
        let at = of_error r (Retime (NoSuchLatch place)) (IsBytesError options old new before after) why is in
        record { spelt = at.spelt; spells = at.spells; no_latch = at.stop.1 };
    unwritten = unwritten-of r why;
    cut_off = λ e is.
        let at = of_error r (Write e) (IsBytesError options old new before after) why is in
        record { spelt = at.spelt; spells = at.spells; stops = at.stop };
  }

  -- the clauses give that statement back
  pub error_of : (e : BytesError) → RetimesBytes options old new before after (Err e) → IsBytesError options old new before after e
  error_of (Read e) facts = (facts.unread e refl, facts.unwritten)
  error_of (Retime NoMemory) facts = record { read = facts.read; spelt = facts.circuit.spelt; spells = facts.circuit.spells; stop = facts.unwritten }
  error_of (Retime (NoSuchName place)) facts =
      let at = facts.missing place refl in
      record { read = facts.read; spelt = at.spelt; spells = at.spells; stop = (facts.unwritten, at.missing) }
  error_of (Retime (NoSuchLatch place)) facts =
      let at = facts.no_latch place refl in
      record { read = facts.read; spelt = at.spelt; spells = at.spells; stop = (facts.unwritten, at.no_latch) }
  error_of (Retime (Misread latch)) facts = record { read = facts.read; spelt = facts.circuit.spelt; spells = facts.circuit.spells; stop = facts.unwritten }
  error_of (Retime (NotShown latch)) facts = record { read = facts.read; spelt = facts.circuit.spelt; spells = facts.circuit.spells; stop = facts.unwritten }
  error_of (Write e) facts =
      let at = facts.cut_off e refl in
      record { read = facts.read; spelt = at.spelt; spells = at.spells; stop = at.stops }
